-- Runs of text: of printed ASCII, the space too, and of bytes that are text whatever follows.
use Rattle.std.proofs.Common.{◌≡◌, ◌≢◌, ℕ, zero, suc, ◌+◌, ◌-◌, ◌<◌, ◌≤◌, ◌==◌, ◌||◌, nat_lt, not, Bool, true, false, List, length, refl, arith, rules}
use Rattle.std.proofs.lemmas.Bool.{cases_Bool}
use Rattle.yaml_scan_types.specs.Marks.{byte, break_of, ends_break, splits_break, starts, line_at, column_at}
use Rattle.yaml_scan_model.specs.Runs.{is_text, passes, ArePassed, columns_over}
use Rattle.yaml_scan_model.proofs.MarksLemmas.{no_break, within, end_next, split_next, line_more, column_more, column_same}
use Rattle.yaml_scan_model.proofs.RunsLemmas.{InRun, run_more, text_parts}

-- what text leaves after it
pub record IsBehind (text : List ℕ) (p n : ℕ) : Type 0 where
  pub inside : p + n ≤ length text
  pub line : line_at text (p + n) ≡ line_at text p
  pub column : column_at text (p + n) ≡ column_at text p + columns_over n text p
  pub whole : splits_break text (p + n) ≡ false

no_columns : (text : List ℕ) (p : ℕ) → column_at text p ≡ column_at text p + columns_over 0 text p
unfolding columns_over
no_columns text p = omega arith

more_columns : (n : ℕ) (text : List ℕ) (p : ℕ)
    → column_at text (p + n) ≡ column_at text p + columns_over n text p
    → ends_break text (p + n) ≡ false
    → column_at text (p + n + 1) ≡ column_at text p + columns_over (suc n) text p
unfolding columns_over
more_columns n text p before ends = search (rules, cases_Bool, column_more, column_same, starts)

-- After that many bytes of text the line is the same, and each byte is a column.
pub behind : (n : ℕ) (text : List ℕ) (p : ℕ) → p ≤ length text → splits_break text p ≡ false
    → ((k : ℕ) → p ≤ k → k < p + n → is_text text k ≡ true) → IsBehind text p n
behind zero text p room whole each =
    let z : p + 0 ≡ p = omega arith in
    record { inside = omega arith; line = rw z refl; column = rw z (no_columns text p); whole = rw z whole }
behind (suc n) text p room whole each =
    let before = behind n text p room whole (λ k after less. each k after (omega arith)) in
    let (some, none) = text_parts text (p + n) (each (p + n) (omega arith) (omega arith)) in
    let far = within text (p + n) some in
    let ends = end_next text (p + n) before.whole none in
    let next : p + suc n ≡ p + n + 1 = omega arith in
    search (rules, end_next, line_more, more_columns, split_next, text_parts, within, before, some, far, ends, next)

passed_parts : (wide : Bool) (b : ℕ) → passes wide b ≡ true → (31 < b) × (b ≢ 0xC2) × (b ≢ 0xE2)
passed_parts wide b h = grind arith

passed_of : (wide : Bool) (b c d : ℕ) → passes wide b ≡ true
    → not (b == 0 || nat_lt 0 (break_of b c d)) ≡ true
passed_of wide b c d h = search (rules, no_break, passed_parts)

-- A byte that is passed is text.
pub passed_text : (wide : Bool) (text : List ℕ) (p : ℕ) → passes wide (byte text p) ≡ true
    → is_text text p ≡ true
passed_text wide text p h = passed_of wide _ _ _ h

-- a run of text goes on after text
text_run : (n : ℕ) (text : List ℕ) (a p : ℕ) → InRun is_text text a p
    → ((k : ℕ) → p ≤ k → k < p + n → is_text text k ≡ true) → InRun is_text text a (p + n)
text_run zero text a p h each =
    let z : p + 0 ≡ p = omega arith in
    rw z h
text_run (suc n) text a p h each =
    let before = text_run n text a p h (λ k after less. each k after (omega arith)) in
    let here = each (p + n) (omega arith) (omega arith) in
    let next : p + suc n ≡ p + n + 1 = omega arith in
    rw next (run_more is_text text a (p + n) before here (text_parts text (p + n) here).0)

-- so it does after bytes that are passed
pub passed_run : (wide : Bool) (text : List ℕ) (a p q : ℕ) → InRun is_text text a p
    → ArePassed wide text p q → InRun is_text text a q
passed_run wide text a p q h passed =
    let forward = passed.forward in
    let count : p + (q - p) ≡ q = omega arith in
    rw count at (text_run (q - p) text a p h (λ k after less. passed_text wide text k (passed.each k after (omega arith))))
