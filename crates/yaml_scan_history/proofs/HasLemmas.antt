-- Texts that have some bytes.
use Rattle.std.proofs.Common.{◌≡◌, ℕ, zero, suc, ◌+◌, ◌≤◌, List, [], ◌∷◌, ◌++◌, length, get_or, take, drop, slice_range, refl, ap, subst, ◌∙◌, arith, add-zero, rules}
use Rattle.yaml_scan_history.proofs.Words.{drop_more, byte, HasAt}

-- the text has these bytes from the place on, by recursion
abbrev pub Has : List ℕ → ℕ → List ℕ → Type 0
Has text p [] = Unit {0}
Has text p (x ∷ xs) = (byte text p ≡ x) × Has text (p + 1) xs

-- What is at a place one by one is there as a text.
pub has : (text : List ℕ) (p : ℕ) (xs : List ℕ) → HasAt text p xs → Has text p xs
has text p [] h = tt
has text p (x ∷ xs) h =
    let first : byte text (p + 0) ≡ x = h 0 (omega arith) in
    (rw add-zero at first, has text (p + 1) xs (λ k l. let e : p + 1 + k ≡ p + suc k = omega arith in ap (λ q. byte text q) e ∙ h (suc k) (omega arith)))

-- What is at a place has its front there.
pub has_front : (text : List ℕ) (p : ℕ) (xs ys : List ℕ) → Has text p (xs ++ ys) → Has text p xs
has_front text p [] ys h = tt
has_front text p (x ∷ xs) ys (e, h) = (e, has_front text (p + 1) xs ys h)

-- After the front of what is at a place comes the rest.
pub has_rest : (text : List ℕ) (p : ℕ) (xs ys : List ℕ) → Has text p (xs ++ ys)
    → Has text (p + length xs) ys
has_rest text p [] ys h = rw add-zero h
has_rest text p (x ∷ xs) ys (e, h) =
    let same : p + 1 + length xs ≡ p + suc (length xs) = omega arith in
    subst (λ q. Has text q ys) same (has_rest text (p + 1) xs ys h)

-- a text that is there, byte by byte
pub has_at : (text : List ℕ) (p : ℕ) (xs : List ℕ) → Has text p xs → HasAt text p xs
has_at text p [] h k l = absurd (omega arith)
has_at text p (x ∷ xs) (e, h) zero l = rw add-zero e
has_at text p (x ∷ xs) (e, h) (suc k) l =
    let same : p + 1 + k ≡ p + suc k = omega arith in
    subst (λ q. byte text q ≡ get_or xs k 0) same (has_at text (p + 1) xs h k (omega arith))

takes : (text : List ℕ) (p : ℕ) (xs : List ℕ) → Has text p xs → p + length xs ≤ length text
    → take (length xs) (drop p text) ≡ xs
takes text p [] h l = refl
takes text p (x ∷ xs) (e, h) l = rw (drop_more text p 0 (omega arith), e) (ap (λ ys. x ∷ ys) (takes text (p + 1) xs h (omega arith)))

-- what is between two places
pub range_reads : (text : List ℕ) (p : ℕ) (xs : List ℕ) → Has text p xs
    → p + length xs ≤ length text → slice_range text p (p + length xs) ≡ xs
range_reads text p xs h l = search (rules, takes)
