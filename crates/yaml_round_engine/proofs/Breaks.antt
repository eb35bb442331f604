-- How a value ends.
use Rattle.std.proofs.Common.{◌≡◌, ◌∙◌, ℕ, ◌-◌, ◌==◌, List, [], ◌∷◌, length, get_or, true, false, refl, ap, arith}
use Rattle.std.proofs.lemmas.Bool.Decides.{nat_tests}
use Rattle.yaml_emit_layout.specs.Style.{last_or}

last_at : (before x : ℕ) (xs : List ℕ) → get_or (x ∷ xs) (length xs) 0 ≡ last_or before (x ∷ xs)
unfolding last_or
last_at before x [] = refl
last_at before x (y ∷ ys) = last_at x y ys

pub last_is : (before : ℕ) (xs : List ℕ) → (length xs == 0) ≡ false
    → get_or xs (length xs - 1) 0 ≡ last_or before xs
last_is before [] h = absurd (cc)
last_is before (x ∷ xs) h = let e : length (x ∷ xs) - 1 ≡ length xs = omega arith in ap (λ i. get_or (x ∷ xs) i 0) e ∙ last_at before x xs

pub last_none : (before : ℕ) (xs : List ℕ) → (length xs == 0) ≡ true → before ≡ last_or before xs
unfolding last_or
last_none before [] h = refl
last_none before (x ∷ xs) h = absurd (grind (arith, nat_tests, h))
