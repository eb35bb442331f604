-- Lines grow with the place.
use Rattle.std.proofs.Common.{◌≡◌, ℕ, zero, suc, ◌+◌, ◌-◌, ◌≤◌, List, arith}
use Rattle.yaml_scan_laws.proofs.Words.{nat_tests, line_at}

line_next : (text : List ℕ) (p : ℕ) → line_at text p ≤ line_at text (suc p)
unfolding line_at
line_next text p = grind arith

line_further : (text : List ℕ) (p k : ℕ) → line_at text p ≤ line_at text (k + p)
line_further text p zero = let z : 0 + p ≡ p = omega arith in rw z (omega arith)
line_further text p (suc k) = grind (arith, nat_tests, line_next, line_further text p k)

-- a later place is on no earlier line
pub line_at-grows : (text : List ℕ) (p q : ℕ) → p ≤ q → line_at text p ≤ line_at text q
line_at-grows text p q h =
    let z : q - p + p ≡ q = omega arith in
    rw z at (line_further text p (q - p))
