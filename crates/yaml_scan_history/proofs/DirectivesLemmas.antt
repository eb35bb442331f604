-- Directives, a part at a time.
use Rattle.std.proofs.Common.{◌≡◌, ℕ, ◌+◌, ◌-◌, ◌^◌, ◌<◌, ◌≤◌, true, false, List, length, Ok, Err, refl, arith, rules}
use Rattle.std.proofs.Math.Nat.{pow-le-pow_right}
use Rattle.yaml_scan_history.proofs.Words.{eq-eqb, le-ltb, lt-ltb, ne_eqb, nat_tests, byte, is_digit_byte, belongs, run_end, decimal, number_at}
use Rattle.yaml_scan_model.specs.declared.problem.Context.TheVariants as contexts
use Rattle.yaml_scan_model.specs.declared.problem.Problem.TheVariants as problems
use Rattle.yaml_scan_history.specs.declared.run.Run.TheVariants as runs
use Rattle.yaml_scan_history.proofs.WordsRunsLemmas.{each_more, run_is, run_stop, run_to, run_within-ge}

-- Nine digits fit.
pub power-room : (k : ℕ) → k ≤ 9 → 10 ^ k ≤ 1000000000
power-room k h = pow-le-pow_right {n = 10} (omega arith) h

digit_small : (b : ℕ) → is_digit_byte b ≡ true → b - 48 ≤ 9
unfolding is_digit_byte
digit_small b h = grind (arith, nat_tests)

-- A digit is worth at most 9.
pub digit_here : (text : List ℕ) (p : ℕ) → belongs runs.Digits text p ≡ true → byte text p - 48 ≤ 9
unfolding belongs
digit_here text p h = digit_small (byte text p) h

-- that many digits
abbrev pub AreDigits : List ℕ → ℕ → ℕ → Type 0
AreDigits text p q = (k : ℕ) → p ≤ k → k < q → belongs runs.Digits text k ≡ true

-- a tenth digit
pub number_long : (text : List ℕ) (p : ℕ) → AreDigits text p (p + 9)
    → belongs runs.Digits text (p + 9) ≡ true
    → number_at text p ≡ Err (record {
      problem = problems.LongVersionNumber;
      context =
          contexts.VersionDirective;
      place = p + 9;
    })
number_long text p each here =
    let (m, left, same) = run_to (length text) runs.Digits text p (p + 9 + 1) (omega arith) (each_more (belongs runs.Digits text) p (p + 9) each here) (omega arith) in
    let far = run_within-ge m runs.Digits text (p + 9 + 1) in
    rw (ne_eqb (run_end runs.Digits text p) p (omega arith), lt-ltb (p + 9) (run_end runs.Digits text p) (omega arith)) refl

-- Without a digit there is no number.
pub number_none : (text : List ℕ) (p : ℕ) → belongs runs.Digits text p ≡ false
    → number_at text p ≡ Err (record {
      problem = problems.NoVersionNumber;
      context =
          contexts.VersionDirective;
      place = p;
    })
number_none text p stop = rw (run_stop (length text) runs.Digits text p stop, eq-eqb p p refl) refl

-- A number is that of its digits, of which there are at most 9.
pub number_done : (text : List ℕ) (p k : ℕ) → AreDigits text p (p + k)
    → belongs runs.Digits text (p + k) ≡ false → 0 < k → k ≤ 9
    → number_at text p ≡ Ok (decimal text p k, p + k)
number_done text p k each stop some few = search (rules, le-ltb, ne_eqb, run_is)
