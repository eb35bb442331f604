-- The next token is known where the lexemes that were read settle it.
use Rattle.std.proofs.Common.{◌≡◌, ℕ, zero, suc, ◌+◌, ◌-◌, ◌<◌, ◌≤◌, Bool, true, false, ltb, List, [], ◌∷◌, ◌++◌, length, take, drop, get_or, refl, sym, ap, ◌∙◌, inl, inr, arith, length-append}
use Rattle.yaml_scan_core.proofs.Words.{cases_lt, nat_tests, length-drop, flat_map, Token, Lexeme as Read, Entry, ended, finished_tokens, first_open, history, next, SpelledText, all, handed, spell, front_ends, remaining, length-entries, tokens_is, front_none, ends_token}
use Rattle.yaml_scan_history.specs.Remaining.{kept_of}
use Rattle.yaml_scan_laws.proofs.RemainingForward.{Known, front_count, known_ended, known_next, known_settled}
use Rattle.yaml_scan_core.specs.declared.scanner.Scanner.{Scanner}
use Rattle.yaml_scan_core.specs.Rows.{row_lexeme, row_of}
use Rattle.yaml_scan_core.specs.Shown.{ShowsRow, entry_at, no_entry, store_of}
use Rattle.yaml_scan_core.specs.Scanning.{history_of, read_by, stream_of}
use Rattle.yaml_scan_core.specs.Handed.{ends_at, given_in, to_come}
use Rattle.yaml_scan_core.specs.Settled.{open_in, settled_in, settled_tokens, settles_in}
use Rattle.yaml_scan_core.specs.Waiting.{IsRead, knows}
use Rattle.yaml_scan_core.proofs.BatchLemmas.{told_history}
use Rattle.yaml_scan_core.proofs.FrontLemmas.{given_less, spell_long}
use Rattle.yaml_scan_core.proofs.HandedLemmas.{given_none, given_open, given_some, settled as is_less, unsettled as isnt_less}
use Rattle.yaml_scan_core.proofs.RestsLemmas.{ends_after}

-- ---- how many tokens come

-- how many tokens lexemes are spelled out in
abbrev count : SpelledText → List Entry → ℕ
count s es = length (flat_map (spell s) es)

count_split : (s : SpelledText) (n : ℕ) (es : List Entry)
    → count s es ≡ count s (take n es) + count s (drop n es)
count_split s zero es = omega arith
count_split s (suc n) [] = omega arith
count_split s (suc n) (e ∷ es) = omega (arith, count_split s n es, length-append (spell s e) (flat_map (spell s) es), length-append (spell s e) (flat_map (spell s) (take n es)))

count_less : (s : SpelledText) (j f : ℕ) (es : List Entry) → j ≤ f
    → count s (drop f es) ≤ count s (drop j es)
count_less s zero f es le = let split = count_split s f es in omega (arith, split)
count_less s (suc j) zero es le = absurd (omega (arith, le))
count_less s (suc j) (suc f) [] le = omega arith
count_less s (suc j) (suc f) (e ∷ es) le = count_less s j f es (omega (arith, le))

-- what comes of the levels that a lost lexeme closes
abbrev kept : SpelledText → List Token
kept s = kept_of (next s.text (all s.text)) (all s.text)

-- how many tokens come from that lexeme on
abbrev from : SpelledText → ℕ → ℕ
from s k = count s (drop k (handed s.text)) + length (kept s)

left_length : (s : SpelledText) (k given : ℕ)
    → length (remaining s k given).tokens ≡ from s k - given
left_length s k given = omega (arith, ap length (tokens_is s k given), length-drop given (flat_map (spell s) (drop k (handed s.text)) ++ kept s), length-append (flat_map (spell s) (drop k (handed s.text))) (kept s))

-- what is known of the lexemes that no later one changes
pub known_upto : (text : List ℕ) (n m : ℕ) → m ≤ settled_in (history text n) → Known text n m
unfolding settled_in
known_upto text n m low = grind (arith, known_ended text n m, known_settled text n m, ends_after text (history text n))

pub settled_open : (h : List Read) → settled_in h < length h → settled_in h ≡ first_open h h
unfolding settled_in
settled_open h low = grind arith

-- how many BLOCK-END tokens come before the first lexeme that isn't settled
abbrev fronts : List Read → ℕ
fronts h = length (front_ends (drop (settled_in h) (finished_tokens h)))

fronts_come : (s : SpelledText) (n : ℕ)
    → fronts (history s.text n) ≤ from s (settled_in (history s.text n))
fronts_come s n =
    let h = history s.text n in
    let f = settled_in h in
    elim (cases_lt f (length h)) [
      | inr past ↦ omega (arith, front_none (finished_tokens h) f (omega (arith, past, length-entries h)))
      | inl low ↦
          let is = front_count (finished_tokens h) f no_entry (omega (arith, low, length-entries h)) in
          elim (cases_lt 0 (fronts h)) [
            | inr none ↦ omega (arith, none)
            | inl some ↦
                let (tokens, fault) = ends_token s n f (fronts h - 1) no_entry (omega (arith, settled_open h low)) low (omega (arith, is, some)) in
                let least : 0 < length (remaining s f (fronts h - 1)).tokens = rw tokens (omega arith) in
                omega (arith, least, left_length s f (fronts h - 1), some)
          ]
    ]

-- how many tokens are open: those from the first lexeme that isn't settled on, except for BLOCK-END before it
open_is : (s : SpelledText) (n : ℕ) → let h = history s.text n in
    open_in s n ≡ from s (settled_in h) - fronts h
unfolding settled_tokens
open_is s n =
    let h = history s.text n in
    let f = settled_in h in
    let same : count s (take f (handed s.text)) ≡ count s (take f (finished_tokens h)) = ap (λ es. count s es) (known_upto s.text n f (omega arith)).same in
    omega (arith, same, count_split s f (handed s.text), left_length s 0 0, length-append (flat_map (spell s) (take f (finished_tokens h))) (front_ends (drop f (finished_tokens h))))

-- before it more are to come
before_open : (s : SpelledText) (n k given : ℕ) → let h = history s.text n in k < settled_in h
    → given < length (spell s (get_or (finished_tokens h) k no_entry))
    → from s (settled_in h) < from s k - given
before_open s n k given low few =
    let h = history s.text n in
    let here = known_next s.text n k no_entry (known_upto s.text n (suc k) (omega (arith, low))) in
    let rest = drop (k + 1) (handed s.text) in
    let first : count s (drop k (handed s.text)) ≡ length (spell s (get_or (finished_tokens h) k no_entry)) + count s rest = ap (λ es. count s es) here ∙ length-append (spell s (get_or (finished_tokens h) k no_entry)) (flat_map (spell s) rest) in
    omega (arith, first, count_less s (k + 1) (settled_in h) (handed s.text) (omega (arith, low)), few)

-- ---- a scanner that met no fault

-- what its row shows, and how much of it is settled
pub record Seen (s : Scanner) : Type 0 where
  pub row : ShowsRow (stream_of s) (row_of s.row) (finished_tokens (history_of s))
  pub settled : settled_in (history_of s) ≡ s.row.dropped + s.row.settled

settled_going : (h : List Read) → ended h ≡ false → settled_in h ≡ first_open h h
unfolding settled_in
settled_going h more = rw more refl

settled_over : (h : List Read) → ended h ≡ true → settled_in h ≡ length h
unfolding settled_in
settled_over h over = rw over refl

pub seen : (s : Scanner) → IsRead s → Seen s
seen s (inl g) = record {
  row = g.shows.holds.row;
  settled = settled_going (history_of s) (sym g.shows.over ∙ g.going) ∙ sym g.first;
}
seen s (inr o) = record {
  row = o.row;
  settled = settled_over (history_of s) o.end ∙ omega (arith, o.all, o.row.count, length-entries (history_of s));
}

-- a settled lexeme waits
pub knows_settled : (s : Scanner) → s.row.next < s.row.settled → knows s ≡ true
knows_settled s low = rw (is_less s.row.next s.row.settled low) refl

-- one waits that isn't settled
pub knows_open : (s : Scanner) → s.row.settled ≤ s.row.next
    → s.row.next < length s.row.lexemes.items
    → knows s ≡ ltb 0 (row_lexeme (row_of s.row) s.row.next).ends
knows_open s high some = rw (isnt_less s.row.next s.row.settled high, is_less s.row.next (length s.row.lexemes.items) some) refl

-- none waits
pub knows_none : (s : Scanner) → s.row.settled ≤ s.row.next
    → length s.row.lexemes.items ≤ s.row.next → knows s ≡ false
knows_none s high gone = rw (isnt_less s.row.next s.row.settled high, isnt_less s.row.next (length s.row.lexemes.items) gone) refl

-- that many are open, and that many to come; whether the next one is known
pub record Tells (known : Bool) (unsettled left : ℕ) : Type 0 where
  pub is : known ≡ ltb unsettled left
  pub few : unsettled ≤ left

more_left : (b : Bool) (u l c f : ℕ) → b ≡ true → u ≡ c - f → c < l → Tells b u l
more_left b u l c f known e low = record { is = known ∙ grind (arith, nat_tests); few = omega (arith, e, low) }

by_ends : (b : Bool) (u l x e c : ℕ) → b ≡ ltb 0 x → u ≡ c - e → l ≡ c - (e - x) → e ≤ c → x ≤ e
    → Tells b u l
by_ends b u l x e c known open_ones left room few = record { is = known ∙ grind (arith, nat_tests); few = omega (arith, open_ones, left) }

same_left : (b : Bool) (u l : ℕ) → b ≡ false → u ≡ l → Tells b u l
same_left b u l known e = record { is = known ∙ grind (arith, nat_tests); few = omega (arith, e) }

-- The next token is known exactly where the lexemes that were read settle it, and never more are open than are to come.
pub tells : (s : Scanner) → IsRead s
    → Tells (knows s) (open_in (stream_of s) (read_by s)) (length (to_come s).tokens)
tells s i =
    let t = stream_of s in
    let n = read_by s in
    let r = row_of s.row in
    let h = history_of s in
    let v = seen s i in
    let k = r.dropped + r.next in
    let x = row_lexeme r r.next in
    let e = entry_at (finished_tokens h) k in
    let given = given_in t.text r in
    let row = v.row in
    let unset = open_is t n in
    let left = left_length t k given in
    let told : r.next < length r.lexemes → e.ends ≡ ends_at t.text k = λ some. told_history s.text.now n k (omega (arith, row.count, some)) in
    elim (cases_lt r.next r.settled) [
      | inl low ↦
          let some : r.next < length r.lexemes = omega (arith, low, row.few) in
          let long = spell_long (store_of t.text r) t x e (row.front some).shows in
          let few : given < length (spell t e) = omega (arith, long, given_some t.text t r (finished_tokens h) row some, given_less (ends_at t.text k) x, told some) in
          let more = before_open t n k given (omega (arith, low, v.settled)) few in
          more_left (knows s) (open_in t n) (length (to_come s).tokens) (from t (settled_in h)) (fronts h) (knows_settled s low) unset (omega (arith, more, left))
      | inr high ↦
          let at : settled_in h ≡ k = omega (arith, v.settled, row.taken, high) in
          let same : from t (settled_in h) ≡ from t k = ap (λ j. from t j) at in
          elim (cases_lt r.next (length r.lexemes)) [
            | inl some ↦
                let ends : fronts h ≡ e.ends = ap (λ j. length (front_ends (drop j (finished_tokens h)))) at ∙ front_count (finished_tokens h) k no_entry (omega (arith, row.count, some)) in
                let taken : given ≡ e.ends - x.ends = given_open t.text t r (finished_tokens h) row high some ∙ ap (λ m. m - x.ends) (sym (told some)) in
                by_ends (knows s) (open_in t n) (length (to_come s).tokens) x.ends e.ends (from t k) (knows_open s high some) (omega (arith, unset, same, ends)) (omega (arith, left, taken)) (omega (arith, fronts_come t n, same, ends)) (row.front some).ends
            | inr gone ↦
                let none : fronts h ≡ 0 = front_none (finished_tokens h) (settled_in h) (omega (arith, at, row.count, gone)) in
                let zero_given : given ≡ 0 = given_none t.text r gone in
                same_left (knows s) (open_in t n) (length (to_come s).tokens) (knows_none s high gone) (omega (arith, unset, same, none, left, zero_given))
          ]
    ]

pub knows_is : (s : Scanner) → IsRead s
    → knows s ≡ settles_in (stream_of s) (to_come s).tokens (read_by s)
knows_is s i = (tells s i).is
