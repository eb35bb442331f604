-- The column of a block scalar's text, a line at a time.
use Rattle.std.proofs.Common.{◌≡◌, ◌≢◌, ℕ, zero, suc, ◌+◌, ◌-◌, ◌<◌, ◌≤◌, ◌==◌, false, List, length, Result, Ok, Err, refl, ap, arith, rules}
use Rattle.yaml_scan_history.proofs.BlockWords.{nat_tests, eq-eqb, ne_eqb, lt-ltb, byte, break_width, column_at, past_spaces, is_space_there, Wrong, past_break, past-le, in_block, larger, larger_of, deepest, column_of}
use Rattle.yaml_scan_model.specs.declared.problem.Problem.TheVariants as problems

pub larger_zero : (b : ℕ) → larger 0 b ≡ b
unfolding larger
larger_zero b = grind (arith, nat_tests)

pub larger_start : (r : Result ℕ Wrong) → r ≡ larger_of 0 r
larger_start r = grind (arith, larger_zero)

larger_more : (a b : ℕ) (r : Result ℕ Wrong)
    → larger_of a (larger_of b r) ≡ larger_of (larger a b) r
larger_more a b (Ok c) = ap (λ x. Ok x) (unfold larger in grind (arith, nat_tests))
larger_more a b (Err w) = refl

pub depth_tab : (n : ℕ) (text : List ℕ) (p d : ℕ) → byte text (past_spaces text p) ≡ 9
    → larger_of d (deepest (suc n) text p)
    ≡ Err (in_block problems.TabForSpace (past_spaces text p))
unfolding deepest
depth_tab n text p d h = rw (eq-eqb (byte text (past_spaces text p)) 9 h) refl

-- The search for the column ends at a line with text.
pub depth_done : (n : ℕ) (text : List ℕ) (p d : ℕ) → byte text (past_spaces text p) ≢ 9
    → break_width text (past_spaces text p) ≡ 0
    → larger_of d (deepest (suc n) text p) ≡ Ok (larger d (column_at text (past_spaces text p)))
unfolding deepest
depth_done n text p d h z = rw (ne_eqb (byte text (past_spaces text p)) 9 h, z) refl

depth_line : (n : ℕ) (text : List ℕ) (p : ℕ) → byte text (past_spaces text p) ≢ 9
    → 0 < break_width text (past_spaces text p)
    → deepest (suc n) text p ≡ larger_of (column_at text (past_spaces text p))
    (deepest n text (past_spaces text p + break_width text (past_spaces text p)))
unfolding deepest
depth_line n text p h w = rw (ne_eqb (byte text (past_spaces text p)) 9 h, lt-ltb 0 (break_width text (past_spaces text p)) w) refl

pub depth_more : (n : ℕ) (text : List ℕ) (p d : ℕ) (whole : Result ℕ Wrong) → length text ≤ p + n
    → whole ≡ larger_of d (deepest (suc n) text p)
    → byte text (past_spaces text p) ≢ 9 → 0 < break_width text (past_spaces text p)
    → (m : ℕ) × (length text ≤ past_spaces text p + break_width text (past_spaces text p) + m)
    × (whole ≡ larger_of (larger d (column_at text (past_spaces text p)))
    (deepest (suc m) text (past_spaces text p + break_width text (past_spaces text p))))
depth_more zero text p d whole room eq-eqb h w = search (rules, past-le, past_break)
depth_more (suc n) text p d whole room eq-eqb h w = search (rules, depth_line, eq-eqb, larger_more, past-le)

pub spaces-le : (text : List ℕ) (p : ℕ) → p ≤ past_spaces text p
spaces-le text p = past-le is_space_there (length text) text p

-- A digit gives a block scalar's column.
pub column_given : (level : ℕ) (text : List ℕ) (digit p : ℕ) → 0 < digit
    → column_of level text digit p ≡ Ok ((level - 1) + digit)
unfolding column_of
column_given level text digit p h = let f : (digit == 0) ≡ false = grind (arith, nat_tests) in rw f refl

-- Without a digit a block scalar's column is the deepest indentation of the empty lines before it,
-- and more than its parent's.
pub column_found : (level : ℕ) (text : List ℕ) (digit p : ℕ) → digit ≡ 0
    → column_of level text digit p ≡ larger_of (larger level 1) (deepest (suc (length text)) text p)
unfolding column_of
column_found level text digit p h = rw h refl
