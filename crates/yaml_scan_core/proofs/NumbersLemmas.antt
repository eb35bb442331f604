-- The numbers of a version, of nine digits at most, are such as an i32 holds.
use Rattle.std.proofs.Common.{◌≡◌, ℕ, zero, suc, ◌+◌, ◌-◌, ◌*◌, ◌^◌, ◌<◌, ◌≤◌, eqb, ltb, List, length, Result, Ok, Err, inl, inr, arith, pow-suc}
use Rattle.yaml_scan_core.proofs.Words.{cases_Bool, nat_tests, byte, Wrong}
use Rattle.yaml_scan_model.specs.scan_types.Ascii as ascii
use Rattle.yaml_scan_history.specs.Directives as directives
use Rattle.yaml_scan_history.specs.Directives.{DirectiveText, Said, ValueText, decimal, directive_at, finished, line_end_at, minor_at, named_value_at, name_at, number_at, number_between, tag_directive_at, then_at, value_at, version_at, with_line, with_major, with_prefix}
use Rattle.yaml_scan_history.specs.declared.directives.DirectiveName.{DirectiveName}
use Rattle.yaml_scan_history.specs.declared.directives.DirectiveName.TheVariants as names
use Rattle.yaml_scan_history.specs.declared.run.Run.TheVariants as runs
use Rattle.yaml_scan_history.specs.Runs.{run_end}
use Rattle.yaml_scan_history.proofs.DirectivesLemmas.{AreDigits, digit_here, power-room}
use Rattle.yaml_scan_history.proofs.WordsRunsLemmas.{run_each, run_within-ge}

-- a version's numbers are small
abbrev pub IsSmallSaid : Said → Type 0
IsSmallSaid (directives.version a b) = (a < 2 ^ 31) × (b < 2 ^ 31)
IsSmallSaid (directives.tag h p) = Unit {0}

abbrev pub SaysSmall : Result DirectiveText Wrong → Type 0
SaysSmall (Ok x) = IsSmallSaid x.said
SaysSmall (Err w) = Unit {0}

abbrev SmallValue : Result ValueText Wrong → Type 0
SmallValue (Ok v) = IsSmallSaid v.said
SmallValue (Err w) = Unit {0}

abbrev SmallNumber : Result (ℕ × ℕ) Wrong → Type 0
SmallNumber (Ok x) = x.0 < 2 ^ 31
SmallNumber (Err w) = Unit {0}

-- digits spell less than a power of ten
decimal_small : (text : List ℕ) (p n : ℕ) → AreDigits text p (p + n) → decimal text p n < 10 ^ n
unfolding decimal
decimal_small text p zero each = omega arith
decimal_small text p (suc n) each =
    let before = decimal_small text p n (λ k low high. each k low (omega (arith, high))) in
    let digit = digit_here text (p + n) (each (p + n) (omega arith) (omega arith)) in
    let more : 10 ^ suc n ≡ 10 ^ n * 10 = pow-suc 10 n in
    rw more (omega (arith, before, digit))

between_small : (text : List ℕ) (p q : ℕ) → p ≤ q → AreDigits text p q
    → SmallNumber (number_between text p q)
between_small text p q le each = elim (cases_Bool (eqb q p)) [
  | inl none ↦ rw none tt
  | inr some ↦ elim (cases_Bool (ltb (p + 9) q)) [
    | inl long ↦ rw (some, long) tt
    | inr short ↦
        let few : q - p ≤ 9 = grind (arith, nat_tests) in
        let whole : p + (q - p) ≡ q = omega (arith, le) in
        let small = decimal_small text p (q - p) (rw whole each) in
        let most = power-room (q - p) few in
        rw (some, short) (omega (arith, small, most))
  ]
]

number_small : (text : List ℕ) (p : ℕ) → SmallNumber (number_at text p)
number_small text p = between_small text p (run_end runs.Digits text p) (run_within-ge (length text) runs.Digits text p)
    (λ k low high. run_each (length text) runs.Digits text p k low high)

major_small : (major : ℕ) (r : Result (ℕ × ℕ) Wrong) → major < 2 ^ 31 → SmallNumber r
    → SmallValue (with_major major r)
major_small major (Ok x) small is = (small, is)
major_small major (Err w) small is = tt

minor_small : (text : List ℕ) (major q : ℕ) → major < 2 ^ 31 → SmallValue (minor_at text major q)
minor_small text major q small = elim (cases_Bool (eqb (byte text q) ascii.dot)) [
  | inl dot ↦ rw dot (major_small major (number_at text (q + 1)) small (number_small text (q + 1)))
  | inr none ↦ rw none tt
]

behind_small : (text : List ℕ) (r : Result (ℕ × ℕ) Wrong) → SmallNumber r
    → SmallValue (then_at (minor_at text) r)
behind_small text (Ok x) is = minor_small text x.0 x.1 is
behind_small text (Err w) is = tt

prefix_small : (h : List ℕ) (r : Result (List ℕ × ℕ) Wrong) → SmallValue (with_prefix h r)
prefix_small h (Ok x) = tt
prefix_small h (Err w) = tt

tag_small : (more : List ℕ → ℕ → Result (List ℕ × ℕ) Wrong) (r : Result (List ℕ × ℕ) Wrong)
    → SmallValue (then_at (λ h q. with_prefix h (more h q)) r)
tag_small more (Ok x) = prefix_small x.0 (more x.0 x.1)
tag_small more (Err w) = tt

named_small : (text : List ℕ) (r : Result (DirectiveName × ℕ) Wrong)
    → SmallValue (then_at (named_value_at text) r)
named_small text (Ok (names.Yaml, q)) = behind_small text (number_at text (run_end runs.Blanks text q)) (number_small text (run_end runs.Blanks text q))
named_small text (Ok (names.Tag, q)) = tag_small (λ h p. directives.prefix_at text p) (directives.handle_at text (run_end runs.Blanks text q))
named_small text (Err w) = tt

line_small : (v : ValueText) (r : Result ℕ Wrong) → IsSmallSaid v.said → SaysSmall (with_line v r)
line_small v (Ok q) is = is
line_small v (Err w) is = tt

finished_small : (text : List ℕ) (r : Result ValueText Wrong) → SmallValue r
    → SaysSmall (finished text r)
finished_small text (Ok v) is = line_small v (line_end_at text v.end) is
finished_small text (Err w) is = tt

-- what a directive says is small
pub says_small : (text : List ℕ) (p : ℕ) → SaysSmall (directive_at text p)
says_small text p = finished_small text (value_at text p) (named_small text (name_at text p))
