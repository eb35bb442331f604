-- Bytes that are left of a text.
use Rattle.std.proofs.Common.{◌≡◌, ℕ, suc, ◌+◌, List, [], ◌∷◌, ◌++◌, length, subst, arith, add-zero}
use Rattle.yaml_emit_laws.proofs.Shared.{byte, Left}
pub use Rattle.yaml_scan_history.proofs.HasLemmas.{has_at, has_front}

-- The first of the bytes that are left is at the place.
pub left_first : (text : List ℕ) (p b : ℕ) (bs : List ℕ) → Left text p (b ∷ bs) → byte text p ≡ b
left_first text p b bs l = let (e, h) = l.has in e

-- After the first byte the others are left.
pub left_more : (text : List ℕ) (p b : ℕ) (bs : List ℕ) → Left text p (b ∷ bs)
    → Left text (p + 1) bs
left_more text p b bs l = let (e, h) = l.has in let x = l.ends in record { has = h; ends = omega arith }

-- After a text the rest is left.
pub left_rest : (text : List ℕ) (p : ℕ) (xs ys : List ℕ) → Left text p (xs ++ ys)
    → Left text (p + length xs) ys
left_rest text p [] ys l = rw add-zero l
left_rest text p (x ∷ xs) ys l =
    let same : p + 1 + length xs ≡ p + suc (length xs) = omega arith in
    subst (λ q. Left text q ys) same (left_rest text (p + 1) xs ys (left_more text p x (xs ++ ys) l))
