-- The digits of a number are what a program writes of it, and determine it.
use Rattle.std.proofs.Common.{◌≡◌, ◌<◌, ◌^◌, ◌/◌, ◌%◌, ◌==◌, ℕ, zero, suc, Bool, true, false, if◌then◌else◌, List, [], ◌∷◌, sym, ap, ◌∙◌, inl, inr, arith, decimal}
use Rattle.std.specs.Char.{digit_value}
use Rattle.std.specs.Fmt.{digits, digits_onto, digit_glyph}
use Rattle.std.specs.Str.Parse.{digits_value, digits_value_after}
use Rattle.std.proofs.lemmas.Bool.{cases_Bool}
use Rattle.std.proofs.lemmas.Bool.Decides.{nat_tests}
use Rattle.yaml_emit_graph.specs.Graph.{decimal_text}

-- ---- how many digits are enough

abbrev last_glyph : ℕ → ℕ
last_glyph n = digit_glyph false (n % 10)

by_test : (b : Bool) (n : ℕ) → (n / 10 == 0) ≡ b → (k : ℕ) (acc : List ℕ)
    → digits_onto (suc k) 10 false n acc
    ≡ (if b then last_glyph n ∷ acc else digits_onto k 10 false (n / 10) (last_glyph n ∷ acc))
by_test b n e k acc = ap (λ (t : Bool). if t then last_glyph n ∷ acc else digits_onto k 10 false (n / 10) (last_glyph n ∷ acc)) e

one_digit : (n : ℕ) → n < 10 → (n / 10 == 0) ≡ true
one_digit n h = grind (arith, nat_tests)

enough : (j k n : ℕ) (acc : List ℕ) → n < 10 ^ suc j → n < 10 ^ suc k
    → digits_onto (suc j) 10 false n acc ≡ digits_onto (suc k) 10 false n acc
enough zero k n acc p q = by_test true n (one_digit n (omega arith)) zero acc ∙ sym (by_test true n (one_digit n (omega arith)) k acc)
enough (suc j) zero n acc p q = by_test true n (one_digit n (omega arith)) (suc j) acc ∙ sym (by_test true n (one_digit n (omega arith)) zero acc)
enough (suc j) (suc k) n acc p q =
    elim (cases_Bool (n / 10 == 0)) [
      | inl e ↦ by_test true n e (suc j) acc ∙ sym (by_test true n e (suc k) acc)
      | inr e ↦
          by_test false n e (suc j) acc
          ∙ enough j k (n / 10) (last_glyph n ∷ acc) (omega arith) (omega arith)
          ∙ sym (by_test false n e (suc k) acc)
    ]

-- a number has no more digits than its value
few_digits : (n : ℕ) → n < 10 ^ suc n
few_digits zero = omega arith
few_digits (suc n) = omega (arith, few_digits n)

pub written : (n : ℕ) → n < 2 ^ 64 → decimal_text n ≡ decimal n
unfolding decimal_text digits
written n h = enough n 63 n [] (few_digits n) (omega arith)

-- ---- the number that they give

glyph_value : (d : ℕ) → d < 10 → digit_value (digit_glyph false d) ≡ d
glyph_value d h = grind (arith, nat_tests)

last_value : (n : ℕ) → digit_value (last_glyph n) ≡ n % 10
last_value n = glyph_value (n % 10) (omega arith)

tell_one : (k n : ℕ) (acc : List ℕ) → (n / 10 == 0) ≡ true
    → digits_value 10 (digits_onto (suc k) 10 false n acc) ≡ digits_value_after 10 n acc
tell_one k n acc e =
    ap (digits_value 10) (by_test true n e k acc)
    ∙ ap (λ (m : ℕ). digits_value_after 10 m acc) (omega (arith, last_value n, ltb-zero n e))
  where
    ltb-zero : (n : ℕ) → (n / 10 == 0) ≡ true → n / 10 ≡ 0
    ltb-zero n e = grind (arith, nat_tests)

tell : (k n : ℕ) (acc : List ℕ) → n < 10 ^ suc k
    → digits_value 10 (digits_onto (suc k) 10 false n acc) ≡ digits_value_after 10 n acc
tell zero n acc h = tell_one zero n acc (one_digit n (omega arith))
tell (suc k) n acc h =
    elim (cases_Bool (n / 10 == 0)) [
      | inl e ↦ tell_one (suc k) n acc e
      | inr e ↦
          ap (digits_value 10) (by_test false n e (suc k) acc)
          ∙ tell k (n / 10) (last_glyph n ∷ acc) (omega arith)
          ∙ ap (λ (m : ℕ). digits_value_after 10 m acc) (omega (arith, last_value n))
    ]

pub told : (n : ℕ) → digits_value 10 (decimal_text n) ≡ n
unfolding decimal_text
told n = tell n n [] (few_digits n)
