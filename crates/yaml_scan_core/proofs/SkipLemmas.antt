-- The state after a token that is taken.
use Rattle.std.proofs.Common.{◌≡◌, ℕ, ◌+◌, ◌-◌, ◌<◌, ◌≤◌, Bool, true, false, not, ltb, List, length, take, refl, sym, ap, subst, ◌∙◌, inl, inr, arith}
use Rattle.std.proofs.Math.Seq.{take-set-lt}
use Rattle.std.proofs.lemmas.List.{get_or-set_other, get_or-set_same, get_or-take, length-set, take-set-le}
use Rattle.yaml_scan_core.proofs.Words.{cases_lt, nat_tests, set, Entry, SpelledText, ended, finished_tokens, first_open, history}
use Rattle.yaml_scan_model.specs.declared.kind.Kind.TheVariants as kinds
use Rattle.yaml_scan_core.specs.declared.lexeme.Lexeme.{Lexeme}
use Rattle.yaml_scan_core.specs.declared.row.Row.{Row}
use Rattle.yaml_scan_core.specs.declared.scanner.Scanner.{Scanner}
use Rattle.yaml_scan_core.specs.Rows.{HasRoom, RowView, behind_lead, led, row_lexeme, loses_none, no_lexeme, row_of}
use Rattle.yaml_scan_core.specs.Shown.{ShowsRow, entry_at}
use Rattle.yaml_scan_core.specs.Scanning.{HasFailed, IsGoing, IsLost, IsOver, Rests, Shows, but_last, history_of, stream_of}
use Rattle.yaml_scan_core.proofs.DropsLemmas.{shown_led, shown_own}
use Rattle.yaml_scan_core.proofs.GivenLemmas.{First, IsReady, TakesFront, lost_end}
use Rattle.yaml_scan_core.proofs.TokensLemmas.{lead_known}

-- as much is read, and settled
pub record Stays (r q : RowView) : Type 0 where
  pub dropped : q.dropped ≡ r.dropped
  pub settled : q.settled ≡ r.settled
  pub long : length q.lexemes ≡ length r.lexemes

pub stays : (t : SpelledText) (r q : RowView) → First t r → TakesFront r q → Stays r q
stays t r q f taken = elim f.way [
  | inl own ↦
      let is = taken.own own in
      record {
        dropped = ap (λ (v : RowView). v.dropped) is;
        settled = ap (λ (v : RowView). v.settled) is;
        long = ap (λ (v : RowView). length v.lexemes) is;
      }
  | inr other ↦
      let is = taken.lead other in
      let x = row_lexeme r r.next in
      record {
        dropped = ap (λ (v : RowView). v.dropped) is;
        settled = ap (λ (v : RowView). v.settled) is;
        long = ap (λ (v : RowView). length v.lexemes) is ∙ length-set r.lexemes r.next (behind_lead x.front x);
      }
]

-- what a row shows it shows after the token
abbrev pub ShowsOn : RowView → RowView → Type 0
ShowsOn r q = (t : SpelledText) (es : List Entry) → ShowsRow t r es → ShowsRow t q es

-- where more may be read
pub going_taken : (s : Scanner) (row : Row) → IsGoing s → Stays (row_of s.row) (row_of row)
    → ShowsOn (row_of s.row) (row_of row) → (HasRoom s.row → HasRoom row)
    → IsGoing (record s { row = row })
going_taken s row g k shows room =
    let t : Scanner = record s { row = row } in
    let hs = history_of s in
    let same : hs ≡ history_of t = ap (λ n. history s.text.now n) (omega (arith, k.dropped, k.long)) in
    let h = g.shows in
    let settled : row.dropped + row.settled ≡ s.row.dropped + s.row.settled = omega (arith, k.dropped, k.settled) in
    let shown : Shows t hs = record {
      holds = record {
        long = h.holds.long;
        row = shows (stream_of s) (finished_tokens hs) h.holds.row;
        room = room h.holds.room;
        settled = omega (arith, settled, h.holds.settled);
        keys = h.holds.keys;
        few = h.holds.few;
        fault = h.holds.fault;
        bytes = h.holds.bytes;
      };
      over = h.over;
      place = h.place;
      mark = h.mark;
      allowed = h.allowed;
      margins = h.margins;
    } in
    record {
      shows = subst (λ x. Shows t x) same shown;
      some = omega (arith, g.some, k.dropped, k.long);
      going = g.going;
      first = subst (λ x. row.dropped + row.settled ≡ first_open x x) same (settled ∙ g.first);
    }

-- where all is read
pub over_taken : (s : Scanner) (row : Row) → IsOver s → Stays (row_of s.row) (row_of row)
    → ShowsOn (row_of s.row) (row_of row) → IsOver (record s { row = row })
over_taken s row o k shows =
    let t : Scanner = record s { row = row } in
    let same : history_of s ≡ history_of t = ap (λ n. history s.text.now n) (omega (arith, k.dropped, k.long)) in
    record {
      over = o.over;
      end = subst (λ x. ended x ≡ true) same o.end;
      row = subst (λ x. ShowsRow (stream_of s) (row_of row) (finished_tokens x)) same (shows (stream_of s) (finished_tokens (history_of s)) o.row);
      all = k.settled ∙ o.all ∙ sym k.long;
      fault = o.fault;
    }

-- ---- at a fault

lost_weaker : (text : List ℕ) (a b : Bool) (x : Lexeme) (e : Entry) → (b ≡ true → a ≡ true)
    → IsLost text a x e → IsLost text b x e
lost_weaker text a b x e on h = record {
  kind = h.kind;
  plain = h.plain;
  front = h.front;
  ends = h.ends;
  whole = λ is. h.whole (on is);
  start = h.start;
}

-- the lexemes before the last one, of which one is changed
cut_led : (r : RowView) → r.next < length r.lexemes - 1 → but_last (led r) ≡ led (but_last r)
cut_led r low =
    let n = length r.lexemes - 1 in
    let x = row_lexeme r r.next in
    let y = behind_lead x.front x in
    let kept : row_lexeme (but_last r) r.next ≡ x = get_or-take n r.lexemes r.next no_lexeme low in
    ap (λ xs. record r { lexemes = xs; settled = r.settled - 1 })
    (ap (λ k. take (k - 1) (set r.lexemes r.next y)) (length-set r.lexemes r.next y) ∙ take-set-lt n r.lexemes r.next y low
    ∙ ap (λ (z : Lexeme). set (take n r.lexemes) r.next (behind_lead z.front z)) (sym kept))

cut_last : (r : RowView) → length r.lexemes - 1 ≤ r.next → but_last (led r) ≡ but_last r
cut_last r high =
    let n = length r.lexemes - 1 in
    let x = row_lexeme r r.next in
    let y = behind_lead x.front x in
    ap (λ xs. record r { lexemes = xs; settled = r.settled - 1 })
    (ap (λ k. take (k - 1) (set r.lexemes r.next y)) (length-set r.lexemes r.next y) ∙ take-set-le n r.lexemes r.next y high)

-- the state, said of the row after the token
failed_by : (s : Scanner) (n : ℕ) (row : Row) (v : RowView) → HasFailed s (history s.text.now n)
    → row_of row ≡ v
    → let h = history s.text.now n in
    ShowsRow (stream_of s) (but_last v) (take (first_open h h) (finished_tokens h))
    → 0 < v.settled → v.settled ≡ length v.lexemes
    → IsLost s.text.now (ltb (v.next + 1) v.settled) (row_lexeme v (v.settled - 1))
    (entry_at (finished_tokens h) (first_open h h))
    → loses_none (row_lexeme v (v.settled - 1)) ≡ not (ltb (first_open h h) (length h))
    → HasFailed (record s { row = row }) (history s.text.now n)
failed_by s n row v f is shows some all lost none =
    let h = history s.text.now n in
    let fo = first_open h h in
    let back = sym is in
    record {
      over = f.over;
      row = subst (λ (w : RowView). ShowsRow (stream_of s) (but_last w) (take fo (finished_tokens h))) back shows;
      some = subst (λ (w : RowView). 0 < w.settled) back some;
      all = subst (λ (w : RowView). w.settled ≡ length w.lexemes) back all;
      lost = subst (λ (w : RowView). IsLost s.text.now (ltb (w.next + 1) w.settled) (row_lexeme w (w.settled - 1)) (entry_at (finished_tokens h) fo)) back lost;
      none = subst (λ (w : RowView). loses_none (row_lexeme w (w.settled - 1)) ≡ not (ltb fo (length h))) back none;
      told = f.told;
    }

-- a lexeme's own token
failed_own : (s : Scanner) (n : ℕ) (row : Row) → HasFailed s (history s.text.now n)
    → s.row.next + 1 < s.row.settled → row_of row ≡ record (row_of s.row) { next = s.row.next + 1 }
    → HasFailed (record s { row = row }) (history s.text.now n)
failed_own s n row f low is =
    let h = history s.text.now n in
    let fo = first_open h h in
    let r = row_of s.row in
    failed_by s n row (record r { next = r.next + 1 }) f is
    (shown_own (stream_of s) (but_last r) (take fo (finished_tokens h)) (omega (arith, low)) f.row) f.some f.all
    (lost_weaker s.text.now (ltb (r.next + 1) r.settled) (ltb (r.next + 1 + 1) r.settled) (row_lexeme r (r.settled - 1)) (entry_at (finished_tokens h) fo) (λ b. grind (arith, nat_tests, b)) f.lost)
    f.none

-- one before it
failed_lead : (s : Scanner) (n : ℕ) (row : Row) → HasFailed s (history s.text.now n)
    → s.row.next + 1 < s.row.settled → row_of row ≡ led (row_of s.row)
    → HasFailed (record s { row = row }) (history s.text.now n)
failed_lead s n row f low is =
    let h = history s.text.now n in
    let fo = first_open h h in
    let r = row_of s.row in
    let x = row_lexeme r r.next in
    let y = behind_lead x.front x in
    let inside : r.next < length r.lexemes - 1 = omega (arith, low, f.all) in
    let inside_cut : r.next < length (but_last r).lexemes = omega (arith, inside, f.row.few, f.all, low) in
    let last : row_lexeme r (r.settled - 1) ≡ row_lexeme (led r) (r.settled - 1) = sym (get_or-set_other r.lexemes r.next (r.settled - 1) y no_lexeme (λ e. absurd (omega (arith, e, low)))) in
    failed_by s n row (led r) f is
    (subst (λ v. ShowsRow (stream_of s) v (take fo (finished_tokens h))) (sym (cut_led r inside))
    (shown_led (stream_of s) (but_last r) (take fo (finished_tokens h)) inside_cut (λ o. omega (arith, low)) f.row))
    f.some (f.all ∙ sym (length-set r.lexemes r.next y))
    (subst (λ z. IsLost s.text.now (ltb (r.next + 1) r.settled) z (entry_at (finished_tokens h) fo)) last f.lost) (ap loses_none (sym last) ∙ f.none)

-- a BLOCK-END before the fault
failed_end : (s : Scanner) (n : ℕ) (row : Row) → HasFailed s (history s.text.now n)
    → s.row.next + 1 ≡ s.row.settled → (row_lexeme (row_of s.row) s.row.next).front ≡ kinds.BlockEnd
    → row_of row ≡ led (row_of s.row) → HasFailed (record s { row = row }) (history s.text.now n)
failed_end s n row f end front is =
    let h = history s.text.now n in
    let fo = first_open h h in
    let e = entry_at (finished_tokens h) fo in
    let r = row_of s.row in
    let x = row_lexeme r r.next in
    let y = behind_lead x.front x in
    let at : r.settled - 1 ≡ r.next = omega (arith, end) in
    let there : row_lexeme (led r) r.next ≡ y = get_or-set_same r.lexemes r.next y no_lexeme (omega (arith, end, f.all)) in
    let same : row_lexeme (led r) (r.settled - 1) ≡ y = ap (λ i. row_lexeme (led r) i) at ∙ there in
    let was : IsLost s.text.now (ltb (r.next + 1) r.settled) x e = subst (λ i. IsLost s.text.now (ltb (r.next + 1) r.settled) (row_lexeme r i) e) at f.lost in
    let over : ltb (r.next + 1) r.settled ≡ false = grind (arith, nat_tests, end) in
    let less : IsLost s.text.now (ltb (r.next + 1) r.settled) (behind_lead kinds.BlockEnd x) e = record {
      kind = was.kind;
      plain = was.plain;
      front = refl;
      ends = omega (arith, was.ends);
      whole = λ b. (let bad = sym b ∙ over in cc);
      start = λ some. was.start (omega (arith, some));
    } in
    failed_by s n row (led r) f is
    (subst (λ v. ShowsRow (stream_of s) v (take fo (finished_tokens h))) (sym (cut_last r (omega (arith, end, f.all)))) f.row)
    f.some (f.all ∙ sym (length-set r.lexemes r.next y))
    (subst (λ z. IsLost s.text.now (ltb (r.next + 1) r.settled) z e) (ap (λ k. behind_lead k x) (sym front) ∙ sym same) less)
    (ap loses_none same ∙ lead_known x.front x ∙ ap (λ i. loses_none (row_lexeme r i)) (sym at) ∙ f.none)

failed_taken : (s : Scanner) (n : ℕ) (row : Row) → HasFailed s (history s.text.now n) → IsReady s
    → First (stream_of s) (row_of s.row) → TakesFront (row_of s.row) (row_of row)
    → HasFailed (record s { row = row }) (history s.text.now n)
failed_taken s n row f ready fst taken = elim (cases_lt (s.row.next + 1) s.row.settled) [
  | inl low ↦ elim fst.way [ inl own ↦ failed_own s n row f low (taken.own own) | inr other ↦ failed_lead s n row f low (taken.lead other) ]
  | inr past ↦
      let end : s.row.next + 1 ≡ s.row.settled = omega (arith, past, ready.some, f.all) in
      let (kind, front) = lost_end s n f end fst.real.0 in
      elim fst.way [ inl own ↦ absurd (fst.real.0 (own ∙ kind)) | inr other ↦ failed_end s n row f end front (taken.lead other) ]
]

-- in all three
pub rests_taken : (s : Scanner) (row : Row) → Rests s → IsReady s
    → First (stream_of s) (row_of s.row) → TakesFront (row_of s.row) (row_of row)
    → ((t : SpelledText) (es : List Entry) → ShowsRow t (row_of s.row) es → ShowsRow t (row_of row) es)
    → (HasRoom s.row → HasRoom row) → Rests (record s { row = row })
rests_taken s row (inl g) ready fst taken shows room = inl (going_taken s row g (stays (stream_of s) (row_of s.row) (row_of row) fst taken) shows room)
rests_taken s row (inr (inl o)) ready fst taken shows room = inr (inl (over_taken s row o (stays (stream_of s) (row_of s.row) (row_of row) fst taken) shows))
rests_taken s row (inr (inr (n, f))) ready fst taken shows room = inr (inr (n, failed_taken s n row f ready fst taken))
