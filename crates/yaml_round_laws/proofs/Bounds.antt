-- Numbers: what is paid for each byte, each line and each tag, in one square.
use Rattle.std.proofs.lemmas.Bool.Decides.{nat_tests}
use Rattle.std.proofs.Common.{◌≡◌, ℕ, zero, suc, ◌+◌, ◌-◌, ◌*◌, ◌/◌, ◌≤◌, ◌⊎◌, subst, arith, inl, inr, mul-le-mul_left, mul-le-mul_right}
use Rattle.std.proofs.Math.Nat.{div-mul-le_self}

-- four times a product is at most the square of the sum
apart_square : (g x : ℕ) → 4 * (g * (g + x)) ≤ (g + (g + x)) * (g + (g + x))
apart_square g x = omega arith

product_square : (g b : ℕ) → 4 * (g * b) ≤ (g + b) * (g + b)
product_square g b =
    elim (le_or g b) [
      | inl w ↦ let e : g + (b - g) ≡ b = omega (arith, w) in subst (λ z. 4 * (g * z) ≤ (g + z) * (g + z)) e (apart_square g (b - g))
      | inr w ↦ let e : b + (g - b) ≡ g = omega (arith, w) in
          let a : 4 * (b * g) ≤ (b + g) * (b + g) = subst (λ z. 4 * (b * z) ≤ (b + z) * (b + z)) e (apart_square b (g - b)) in
          omega (arith, a)
    ]
  where
    le_or : (a b : ℕ) → (a ≤ b) ⊎ (b ≤ a)
    le_or zero b = inl (omega arith)
    le_or (suc a) zero = inr (omega arith)
    le_or (suc a) (suc b) = elim (le_or a b) [ inl w ↦ inl (omega (arith, w)) | inr w ↦ inr (omega (arith, w)) ]

pub squares : (a b : ℕ) → a ≤ b → a * a ≤ b * b
squares a b w =
    let x : a * a ≤ a * b = mul-le-mul_left a w in
    let y : a * b ≤ b * b = mul-le-mul_right b w in
    omega (arith, x, y)

-- in m bytes, under an indent of r and 2
polynomial : (m r : ℕ)
    → 123 + 2 * ((2 * m + 5) * ((2 + r) * (m + 1))) + 141 * (m + 1) + 3 * ((m + 1) * (m + 1)) ≤ 6 *
    ((2 + r) * ((m + 8) * (m + 8)))
polynomial m r = omega arith

-- i columns at most, g tags, and b bytes of directives
in_units : (m n i g b : ℕ) → 2 ≤ n → 3 * i ≤ (2 * m + 5) * n → g + b ≤ m + 1
    → 41 + 2 * ((i + 10) * (m + 1)) + (27 + 4 * b) * g ≤ 2 * (n * ((m + 8) * (m + 8)))
in_units m n i g b two deep few =
    let e : 2 + (n - 2) ≡ n = omega (arith, two) in
    let p : 123 + 2 * ((2 * m + 5) * (n * (m + 1))) + 141 * (m + 1) + 3 * ((m + 1) * (m + 1)) ≤ 6 * (n * ((m + 8) * (m + 8))) = subst (λ z. 123 + 2 * ((2 * m + 5) * (z * (m + 1))) + 141 * (m + 1) + 3 * ((m + 1) * (m + 1)) ≤ 6 * (z * ((m + 8) * (m + 8)))) e (polynomial m (n - 2)) in
    let q = product_square g b in
    let s = squares (g + b) (m + 1) few in
    let d : (3 * i) * (m + 1) ≤ ((2 * m + 5) * n) * (m + 1) = mul-le-mul_right (m + 1) deep in
    thrice m n i g b p q s d few
  where
    thrice : (m n i g b : ℕ)
        → 123 + 2 * ((2 * m + 5) * (n * (m + 1))) + 141 * (m + 1) + 3 * ((m + 1) * (m + 1)) ≤ 6 *
        (n * ((m + 8) * (m + 8)))
        → 4 * (g * b) ≤ (g + b) * (g + b) → (g + b) * (g + b) ≤ (m + 1) * (m + 1)
        → (3 * i) * (m + 1) ≤ ((2 * m + 5) * n) * (m + 1) → g + b ≤ m + 1
        → 41 + 2 * ((i + 10) * (m + 1)) + (27 + 4 * b) * g ≤ 2 * (n * ((m + 8) * (m + 8)))
    thrice m n i g b p q s d few = omega (arith, p, q, s, d, few)

pub all_in_all : (u m n i g b : ℕ) → 2 ≤ n → 3 * i ≤ (2 * m + 5) * n → g + b ≤ m + 1
    → 41 * u + (u * (i + 10) + u * (i + 10)) * (m + 1) + (27 * u + 4 * u * b) * g ≤ u *
    (2 * (n * ((m + 8) * (m + 8))))
all_in_all u m n i g b two deep few =
    let a : u * (41 + 2 * ((i + 10) * (m + 1)) + (27 + 4 * b) * g) ≤ u * (2 * (n * ((m + 8) * (m + 8)))) = mul-le-mul_left u (in_units m n i g b two deep few) in
    omega (arith, a)

-- the most columns before a line's text
pub most_columns : (m n : ℕ) → 3 * ((2 * m + 5) / 3 * n) ≤ (2 * m + 5) * n
most_columns m n =
    let a : (2 * m + 5) / 3 * 3 ≤ 2 * m + 5 = div-mul-le_self (2 * m + 5) 3 in
    let b : ((2 * m + 5) / 3 * 3) * n ≤ (2 * m + 5) * n = mul-le-mul_right n a in
    omega (arith, b)

pub columns_fit : (m n d : ℕ) → 3 * d ≤ 2 * m + 2 → n + d * n ≤ (2 * m + 5) / 3 * n
columns_fit m n d w = grind (arith, nat_tests, mul-le-mul_right)
