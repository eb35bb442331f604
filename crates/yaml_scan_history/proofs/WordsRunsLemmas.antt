-- Runs, a byte at a time.
use Rattle.std.proofs.Common.{◌≡◌, ◌≢◌, ℕ, zero, suc, ◌+◌, ◌<◌, ◌≤◌, Bool, true, false, List, length, refl, ◌∙◌, inl, inr, ◌⊎◌, arith, rules}
use Rattle.yaml_scan_history.proofs.Words.{cases_Bool, cases_lt, false_from_ne_true, nat_tests, byte, break_of, break_width, is_blank, is_alpha_byte, is_digit_byte, no_break_between, within, Run, belongs, run_within, run_end}
use Rattle.yaml_scan_history.specs.declared.run.Run.TheVariants as runs

digit_range : (b : ℕ) → is_digit_byte b ≡ true → (48 ≤ b) × (b ≤ 57)
unfolding is_digit_byte
digit_range b h = (grind (arith, nat_tests), grind (arith, nat_tests))

-- An alpha lies between `-` and `z`, and isn't `<`.
pub alpha_range : (b : ℕ) → is_alpha_byte b ≡ true → (45 ≤ b) × (b ≤ 122) × (b ≢ 60)
unfolding is_alpha_byte is_digit_byte
alpha_range b h = (grind (arith, nat_tests), grind (arith, nat_tests), grind (arith, nat_tests))

-- a space or a tab
pub blank_cases : (b : ℕ) → is_blank b ≡ true → (b ≡ 32) ⊎ (b ≡ 9)
blank_cases b h = grind (arith, nat_tests)

-- a blank is no break and not the end
pub blank_parts : (b c d : ℕ) → is_blank b ≡ true → (0 < b) × (break_of b c d ≡ 0)
unfolding break_of
blank_parts b c d h = elim (blank_cases b h) [ inl e ↦ rw e (omega arith, refl) | inr e ↦ rw e (omega arith, refl) ]

-- a byte of a run is no break and not the end
pub belongs_here : (run : Run) (text : List ℕ) (p : ℕ) → belongs run text p ≡ true
    → (0 < byte text p) × (break_width text p ≡ 0)
unfolding belongs
belongs_here runs.Alphas text p h = search (rules, alpha_range, no_break_between)
belongs_here runs.Digits text p h = search (rules, digit_range, no_break_between)
belongs_here runs.Blanks text p h = blank_parts _ _ _ h

-- A byte of a run is within the text.
pub belongs_inside : (run : Run) (text : List ℕ) (p : ℕ) → belongs run text p ≡ true
    → p < length text
belongs_inside run text p h = within text p (belongs_here run text p h).0

-- Nothing of a run is past the end.
pub past_run : (run : Run) (text : List ℕ) (p : ℕ) → length text ≤ p → belongs run text p ≡ false
past_run run text p past = false_from_ne_true _ (λ h. let inside = belongs_inside run text p h in omega arith)

-- what is left of a run after a byte of it
pub run_more : (n : ℕ) (run : Run) (text : List ℕ) (p : ℕ) → belongs run text p ≡ true
    → length text ≤ p + n
    → (m : ℕ) × (length text ≤ p + 1 + m)
    × (run_within n run text p ≡ run_within m run text (p + 1))
unfolding run_within
run_more zero run text p h room = let inside = belongs_inside run text p h in absurd (omega arith)
run_more (suc n) run text p h room = (n, omega arith, rw h refl)

-- A run stops at a byte that isn't of it.
pub run_stop : (n : ℕ) (run : Run) (text : List ℕ) (p : ℕ) → belongs run text p ≡ false
    → run_within n run text p ≡ p
unfolding run_within
run_stop zero run text p h = refl
run_stop (suc n) run text p h = rw h refl

-- A run passes all bytes of its kind, with steps enough left for the rest.
pub run_to : (n : ℕ) (run : Run) (text : List ℕ) (p q : ℕ) → p ≤ q
    → ((k : ℕ) → p ≤ k → k < q → belongs run text k ≡ true) → length text ≤ p + n
    → (m : ℕ) × (length text ≤ q + m) × (run_within n run text p ≡ run_within m run text q)
unfolding run_within
run_to zero run text p q after each room =
    elim (cases_lt p q) [
      | inl less ↦ let inside = belongs_inside run text p (each p (omega arith) less) in absurd (omega arith)
      | inr same ↦ let e : q ≡ p = omega arith in rw e (0, room, refl)
    ]
run_to (suc n) run text p q after each room =
    elim (cases_lt p q) [
      | inl less ↦ rw (each p (omega arith) less) (run_to n run text (p + 1) q (omega arith) (λ k a b. each k (omega arith) b) (omega arith))
      | inr same ↦ let e : q ≡ p = omega arith in rw e (suc n, room, refl)
    ]

-- A run ends where all before belong to it, and what is there doesn't.
pub run_is : (run : Run) (text : List ℕ) (p q : ℕ) → p ≤ q
    → ((k : ℕ) → p ≤ k → k < q → belongs run text k ≡ true) → belongs run text q ≡ false
    → run_end run text p ≡ q
run_is run text p q after each stops =
    let (m, left, same) = run_to (length text) run text p q after each (omega arith) in
    same ∙ run_stop m run text q stops

-- Each byte of a run belongs to it.
pub run_each : (n : ℕ) (run : Run) (text : List ℕ) (p k : ℕ) → p ≤ k → k < run_within n run text p
    → belongs run text k ≡ true
unfolding run_within
run_each zero run text p k after before = absurd (omega arith)
run_each (suc n) run text p k after before =
    elim (cases_Bool (belongs run text p)) [
      | inl e ↦ elim (cases_lt p k) [
        | inl more ↦ run_each n run text (p + 1) k (omega arith) (rw e at before)
        | inr here ↦ let same : k ≡ p = omega arith in rw same e
      ]
      | inr e ↦ let less : k < p = rw e at before in absurd (omega arith)
    ]

pub run_stops : (n : ℕ) (run : Run) (text : List ℕ) (p : ℕ) → length text ≤ p + n
    → belongs run text (run_within n run text p) ≡ false
unfolding run_within
run_stops zero run text p room = past_run run text p (omega arith)
run_stops (suc n) run text p room =
    elim (cases_Bool (belongs run text p)) [
      | inl e ↦ rw e (run_stops n run text (p + 1) (omega arith))
      | inr e ↦ rw e e
    ]

-- what holds up to a place, and there
pub each_more : (test : ℕ → Bool) (p q : ℕ) → ((k : ℕ) → p ≤ k → k < q → test k ≡ true)
    → test q ≡ true → (k : ℕ) → p ≤ k → k < q + 1 → test k ≡ true
each_more test p q front here k after before =
    elim (cases_lt k q) [
      | inl less ↦ front k after less
      | inr more ↦ let same : k ≡ q = omega arith in rw same here
    ]

-- a run goes forward, and stays inside the text
pub run_within-ge : (n : ℕ) (run : Run) (text : List ℕ) (p : ℕ) → p ≤ run_within n run text p
unfolding run_within
run_within-ge zero run text p = omega arith
run_within-ge (suc n) run text p =
    elim (cases_Bool (belongs run text p)) [
      | inl e ↦ let more = run_within-ge n run text (p + 1) in rw e (omega arith)
      | inr e ↦ rw e (omega arith)
    ]

pub run_within-le : (n : ℕ) (run : Run) (text : List ℕ) (p : ℕ) → p ≤ length text
    → run_within n run text p ≤ length text
unfolding run_within
run_within-le zero run text p h = h
run_within-le (suc n) run text p h =
    elim (cases_Bool (belongs run text p)) [
      | inl e ↦ let inside = belongs_inside run text p e in rw e (run_within-le n run text (p + 1) (omega arith))
      | inr e ↦ rw e h
    ]
