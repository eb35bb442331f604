-- What is taken while lexemes are read.
use Rattle.std.proofs.Common.{◌≡◌, ℕ, ◌+◌, ◌-◌, ◌<◌, ◌≤◌, true, false, ltb, inl, inr, List, [], ◌∷◌, ◌++◌, length, take, refl, sym, ap, subst, ◌∙◌, arith, length-append}
use Rattle.std.proofs.lemmas.List.{get_or-take, length-take-le}
use Rattle.yaml_scan_core.proofs.Words.{cases_Bool, cases_lt, nat_tests, get_or_append_left, get_or_at, Lexeme as Read, finished_tokens, first_open, first_open-le, length-entries, history}
use Rattle.yaml_scan_history.specs.Remaining.{all}
use Rattle.yaml_scan_laws.proofs.HistoryForward.{history_grows, stays_all}
use Rattle.yaml_scan_laws.proofs.RemainingForward.{entries_ends}
use Rattle.yaml_scan_core.specs.declared.keys.Keys.{Keys}
use Rattle.yaml_scan_core.specs.declared.row.Row.{Row}
use Rattle.yaml_scan_core.specs.declared.scanner.Scanner.{Scanner}
use Rattle.yaml_scan_core.specs.Rows.{RowView, failed, first_kind, row_lexeme, lost_at, no_lexeme, row_of}
use Rattle.yaml_scan_core.specs.Shown.{entry_at, no_entry, store_of}
use Rattle.yaml_scan_core.specs.Scanning.{Advances, Falls, Shows, history_of, read_by, stream_of}
use Rattle.yaml_scan_core.specs.Handed.{Drops, EndsTold, HandsOn, ends_at, ends_known, given_in, given_of}
use Rattle.yaml_scan_core.proofs.HandedLemmas.{front_first, given_first, given_is, given_none, given_open, given_some, given_stays, known_by, known_shown, unsettled}
use Rattle.yaml_scan_core.proofs.RestsLemmas.{few_read, loses_one, none_read, settled_with}

newer_ends : (newer h : List Read) (k : ℕ) → k < length h
    → (entry_at (finished_tokens (newer ++ h)) k).ends ≡ (entry_at (finished_tokens h) k).ends
newer_ends [] h k low = refl
newer_ends (l ∷ newer) h k low = (entries_ends l (newer ++ h) k no_entry (omega (arith, low, length-append newer h))).0 ∙ newer_ends newer h k low

pub all_is : (text : List ℕ) → all text ≡ history text (length text + 2)
unfolding all
all_is text = refl

-- how many levels end before a lexeme doesn't change
pub ends_told : (text : List ℕ) (n k : ℕ) → n ≤ length text + 2 → k < length (history text n)
    → (entry_at (finished_tokens (history text n)) k).ends ≡ ends_at text k
ends_told text n k few low =
    let (newer, grown) = history_grows text n (length text + 2) few in
    sym (ap (λ x. (entry_at (finished_tokens x) k).ends) (all_is text ∙ grown) ∙ newer_ends newer (history text n) k low)

told_few : (text : List ℕ) (n : ℕ) → n ≤ length text + 2
    → EndsTold text (finished_tokens (history text n))
told_few text n few k lt = ends_told text n k few (omega (arith, lt, length-entries (history text n)))

pub told_history : (text : List ℕ) (n : ℕ) → EndsTold text (finished_tokens (history text n))
told_history text n = elim (cases_lt n (length text + 2)) [
  | inl low ↦ told_few text n (omega (arith, low))
  | inr high ↦ subst (λ h. EndsTold text (finished_tokens h)) (sym (stays_all text n high ∙ all_is text)) (told_few text (length text + 2) (omega arith))
]

-- as much is taken after a step
pub hands_advances : (old new : Scanner) → Shows old (history_of old) → Advances old new
    → HandsOn old new
hands_advances old new h v =
    let k = v.kept.row in
    let number = old.row.dropped + old.row.next in
    let longer : length old.row.lexemes.items ≤ length new.row.lexemes.items = omega (arith, v.one, k.dropped) in
    let told : old.row.next < length new.row.lexemes.items → (entry_at (finished_tokens (history_of new)) number).ends ≡ ends_at new.text.now number =
    λ lt. ends_told new.text.now (read_by new) number (few_read new v.shows) (omega (arith, lt, k.dropped, v.shows.holds.row.count, length-entries (history_of new))) in
    record {
      fixed = v.kept.fixed;
      taken = omega (arith, k.next, k.dropped);
      given = given_stays new.text.now (stream_of old) (stream_of new) (row_of old.row) (row_of new.row) (finished_tokens (history_of old)) (finished_tokens (history_of new)) k h.holds.row v.shows.holds.row longer told
          ∙ ap (λ t. given_in t (row_of old.row)) v.text;
    }

-- ---- at a fault

lost_first : (r : RowView) → (lost_at r).front ≡ first_kind (lost_at r)
lost_first r = elim (cases_Bool (ltb r.settled (length r.lexemes))) [ inl y ↦ rw y refl | inr n ↦ rw n refl ]

lost_ends : (r : RowView) → r.settled < length r.lexemes
    → (lost_at r).ends ≡ (row_lexeme r r.settled).ends
lost_ends r lt = let y : ltb r.settled (length r.lexemes) ≡ true = grind (arith, nat_tests) in rw y refl

-- of one that was read the ends are known, and no other has any
lost_known : (r : RowView) (n : ℕ) → r.settled < length r.lexemes → ends_known (lost_at r) n ≡ n
lost_known r n lt = ap (λ b. known_by b n) (loses_one r lt)

none_ends : (r : RowView) (n : ℕ) → length r.lexemes ≤ r.settled
    → ends_known (lost_at r) n - (lost_at r).ends ≡ 0
none_ends r n past = let y : ltb r.settled (length r.lexemes) ≡ false = grind (arith, nat_tests) in rw y refl

-- what the row of a fault has where what is taken ends
pub given_fails : (old mid : Scanner) (k : ℕ) (row : Row) → Shows old (history_of old)
    → Falls old mid (history_of old)
    → mid.row.dropped + k ≡ first_open (history_of old) (history_of old)
    → row_of row ≡ failed (record (row_of mid.row) { settled = k })
    → given_in old.text.now (row_of row) ≡ given_in old.text.now (row_of old.row)
given_fails old mid k row h fall first is =
    let text = old.text.now in
    let hs = history_of old in
    let r = row_of old.row in
    let q = row_of mid.row in
    let cut : RowView = record q { settled = k } in
    let lost = lost_at cut in
    let p = failed cut in
    let kept = fall.kept.row in
    let shown = fall.settled.row in
    let few = first_open-le hs hs in
    let count = h.holds.row.count in
    let taken = h.holds.row.taken in
    let settled = h.holds.settled in
    let entries_long = length-entries hs in
    let low : r.next ≤ k = omega (arith, first, taken, settled, kept.dropped) in
    let high : k ≤ length r.lexemes = omega (arith, first, few, count, entries_long, kept.dropped) in
    let longer : length r.lexemes ≤ length q.lexemes = omega (arith, fall.settled.more, shown.count, count, entries_long, kept.dropped) in
    let one : length (take k q.lexemes) ≡ k = length-take-le k q.lexemes (omega (arith, high, longer)) in
    let long : length p.lexemes ≡ k + 1 = length-append (take k q.lexemes) (lost ∷ []) ∙ ap (λ n. n + 1) one in
    let there : p.next < length p.lexemes = omega (arith, low, long, kept.next) in
    let number : p.dropped + p.next ≡ r.dropped + r.next = omega (arith, kept.next, kept.dropped) in
    let ends = ends_at text (r.dropped + r.next) in
    let at : row_lexeme p p.next ≡ row_lexeme p r.next = ap (λ i. row_lexeme p i) kept.next in
    let some : given_in text p ≡ given_of (ends_known (row_lexeme p r.next) ends) (row_lexeme p r.next) =
    given_is text p there ∙ ap (λ i. given_of (ends_known (row_lexeme p p.next) (ends_at text i)) (row_lexeme p p.next)) number ∙ ap (λ x. given_of (ends_known x ends) x) at in
    ap (λ v. given_in text v) is ∙ some ∙ elim (cases_lt r.next k) [
      | inl before ↦
          let same : row_lexeme p r.next ≡ row_lexeme q r.next = get_or_append_left (take k q.lexemes) (lost ∷ []) no_lexeme r.next (omega (arith, before, one)) ∙ get_or-take k q.lexemes r.next no_lexeme before in
          let front = shown.front (omega (arith, before, high, longer, kept.next)) in
          let held : ends_known (row_lexeme q q.next) ends ≡ ends = known_shown (store_of mid.text.now q) (stream_of mid) (row_lexeme q q.next) (entry_at fall.settled.all (q.dropped + q.next)) ends front.shows in
          let known : ends_known (row_lexeme q r.next) ends ≡ ends = subst (λ i. ends_known (row_lexeme q i) ends ≡ ends) kept.next held in
          let given : given_of (ends_known (row_lexeme p r.next) ends) (row_lexeme p r.next) ≡ given_of ends (row_lexeme q r.next) =
          ap (λ x. given_of (ends_known x ends) x) same ∙ ap (λ n. given_of n (row_lexeme q r.next)) known in
          given ∙ elim (cases_lt r.next r.settled) [
            | inl done ↦ ap (λ x. given_of ends x) (kept.same done) ∙ sym (given_some text (stream_of old) r (finished_tokens hs) h.holds.row (omega (arith, before, high)))
            | inr open_one ↦
                let first_one = front_first (store_of mid.text.now q) (stream_of mid) (row_lexeme q q.next) (entry_at fall.settled.all (q.dropped + q.next)) (ltb q.next q.settled)
                (unsettled q.next q.settled (omega (arith, open_one, kept.next, kept.settled))) front in
                let first_there : (row_lexeme q r.next).front ≡ first_kind (row_lexeme q r.next) = subst (λ i. (row_lexeme q i).front ≡ first_kind (row_lexeme q i)) kept.next first_one in
                given_first ends (row_lexeme q r.next) first_there ∙ ap (λ e. ends - e) (kept.ends (omega (arith, before, high)))
                ∙ sym (given_open text (stream_of old) r (finished_tokens hs) h.holds.row open_one (omega (arith, before, high)))
          ]
      | inr last ↦
          let here : r.next ≡ k = omega (arith, last, low) in
          let same : row_lexeme p r.next ≡ lost = get_or_at (take k q.lexemes) lost [] no_lexeme r.next (one ∙ sym here) in
          let given : given_of (ends_known (row_lexeme p r.next) ends) (row_lexeme p r.next) ≡ ends_known lost ends - lost.ends = ap (λ x. given_of (ends_known x ends) x) same ∙ given_first (ends_known lost ends) lost (lost_first cut) in
          given ∙ elim (cases_lt k (length r.lexemes)) [
            | inl more ↦
                let own : lost.ends ≡ (row_lexeme r r.next).ends = lost_ends cut (omega (arith, more, longer)) ∙ ap (λ i. (row_lexeme q i).ends) (sym here) ∙ kept.ends (omega (arith, more, here)) in
                ap (λ n. n - lost.ends) (lost_known cut ends (omega (arith, more, longer))) ∙ ap (λ e. ends - e) own
                ∙ sym (given_open text (stream_of old) r (finished_tokens hs) h.holds.row (omega (arith, here, settled, first, kept.dropped)) (omega (arith, more, here)))
            | inr none ↦
                let unread = none_read mid hs k fall.settled first (omega (arith, none, first, count, entries_long, kept.dropped)) in
                none_ends cut ends unread ∙ sym (given_none text r (omega (arith, none, here)))
          ]
    ]

pub hands_fails : (old mid : Scanner) (keys : Keys) (k : ℕ) (row : Row) → Shows old (history_of old)
    → Falls old mid (history_of old)
    → mid.row.dropped + k ≡ first_open (history mid.text.now (read_by old)) (history mid.text.now (read_by old))
    → row_of row ≡ failed (record (row_of mid.row) { settled = k }) → HandsOn old (record (settled_with mid keys k) { ended = true; row = row })
hands_fails old mid keys k row h f first is =
    let n = read_by old in
    let same : history mid.text.now n ≡ history_of old = ap (λ t. history t n) f.text in
    let low : mid.row.dropped + k ≡ first_open (history_of old) (history_of old) = subst (λ x. mid.row.dropped + k ≡ first_open x x) same first in
    let kept = f.kept.row in
    record {
      fixed = f.kept.fixed;
      taken = ap (λ (v : RowView). v.dropped + v.next) is ∙ omega (arith, kept.next, kept.dropped);
      given = ap (λ t. given_in t (row_of row)) f.text ∙ given_fails old mid k row h f low is;
    }

-- ---- one after another

pub hands_none : (s : Scanner) → HandsOn s s
hands_none s = record { fixed = refl; taken = refl; given = refl }

pub hands_then : (a b c : Scanner) → HandsOn a b → HandsOn b c → HandsOn a c
hands_then a b c f g = record { fixed = g.fixed ∙ f.fixed; taken = g.taken ∙ f.taken; given = g.given ∙ f.given }

pub hands_settled : (a s : Scanner) (keys : Keys) (k : ℕ) → HandsOn a s
    → HandsOn a (settled_with s keys k)
hands_settled a s keys k f = record { fixed = f.fixed; taken = f.taken; given = f.given }

pub hands_dropped : (s : Scanner) (row : Row) → Drops s.row row → HandsOn s (record s { row = row })
hands_dropped s row d = record { fixed = refl; taken = d.taken; given = d.given s.text.now }
