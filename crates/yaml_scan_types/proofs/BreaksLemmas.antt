-- Whether a test holds below a number.
use Rattle.std.proofs.Common.{◌≡◌, ◌∙◌, ℕ, ◌<◌, ◌+◌, Bool, true, false, refl, sym, ap, subst, arith, inl, inr, add-one}
use Rattle.std.specs.Prelude.{zero, suc, ◌&&◌}
use Rattle.std.proofs.lemmas.Bool.{cases_eq}
use Rattle.std.proofs.Math.Bool.{or-true}
use Rattle.yaml_scan_types.specs.Classes.{any_below}

-- a test of the first numbers
pub below_found : (p : ℕ → Bool) (n i : ℕ) → i < n → p i ≡ true → any_below n p ≡ true
unfolding any_below
below_found p zero i h e = absurd (omega arith)
below_found p (suc n) i h e = elim (cases_eq i n) [
  | inl same ↦ (let k : p n ≡ true = ap p (sym same) ∙ e in rw k (or-true (any_below n p)))
  | inr other ↦ (let k : any_below n p ≡ true = below_found p n i (omega (arith, other)) e in rw k refl)
]

pub below_more : (p : ℕ → Bool) (i : ℕ) → any_below i p ≡ false → p i ≡ false
    → any_below (i + 1) p ≡ false
unfolding any_below
below_more p i h e = rw add-one (rw (h, e) refl)

-- one place more of a row
pub row_more : (p : ℕ → Bool) (at n : ℕ) (all one : Bool)
    → (all ≡ true → any_below at p ≡ false → any_below (at + n) p ≡ false)
    → (one ≡ true → p (at + n) ≡ false)
    → (all && one) ≡ true → any_below at p ≡ false → any_below (at + (n + 1)) p ≡ false
row_more p at n true true h k e none =
    let on : (at + n) + 1 ≡ at + (n + 1) = omega arith in
    subst (λ (m : ℕ). any_below m p ≡ false) on (below_more p (at + n) (h refl none) (k refl))
row_more p at n true false h k e none = absurd (cc)
row_more p at n false one h k e none = absurd (cc)
