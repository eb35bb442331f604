-- The marks of the nodes that a walk has met, where these are the first ones.
use Rattle.std.proofs.Common.{◌≡◌, ◌<◌, ◌-◌, ℕ, zero, suc, pos, true, false, List, ◌∷◌, ◌++◌, length, refl, ap, ◌∙◌, arith, replicate, set}
use Rattle.yaml_emit_laws.proofs.DumpsWords.{length-replicate, get_or-replicate, get_or_append_left, get_or-append_right, Node, Met, is_met, meet, none_met, met_so}

pub met_old : (nodes : List Node) (seen k : ℕ) → k < seen
    → is_met (met_so nodes seen) (pos (suc k)) ≡ true
met_old nodes seen k h =
    get_or_append_left (replicate seen true) (replicate (length nodes - seen) false) true k (omega (arith, h, length-replicate seen true)) ∙ get_or-replicate seen k true true h

pub met_new : (nodes : List Node) (seen : ℕ) → seen < length nodes
    → is_met (met_so nodes seen) (pos (suc seen)) ≡ false
met_new nodes seen h =
    get_or-append_right (replicate seen true) (replicate (length nodes - seen) false) seen seen true (length-replicate seen true) (omega arith)
    ∙ get_or-replicate (length nodes - seen) (seen - seen) false true (omega (arith, h))

set_next : (s m : ℕ)
    → set (replicate s true ++ replicate (suc m) false) s true ≡ replicate (suc s) true
    ++ replicate m false
set_next zero m = refl
set_next (suc s) m = ap (λ (xs : Met). true ∷ xs) (set_next s m)

pub meets : (nodes : List Node) (seen : ℕ) → seen < length nodes
    → meet (met_so nodes seen) (pos (suc seen)) ≡ met_so nodes (suc seen)
meets nodes seen h =
    let e : length nodes - seen ≡ suc (length nodes - suc seen) = omega (arith, h) in
    ap (λ (m : ℕ). set (replicate seen true ++ replicate m false) seen true) e ∙ set_next seen (length nodes - suc seen)

pub none_yet : (nodes : List Node) → met_so nodes 0 ≡ none_met nodes
none_yet nodes = let e : length nodes - 0 ≡ length nodes = omega arith in ap (λ (m : ℕ). replicate m false) e
