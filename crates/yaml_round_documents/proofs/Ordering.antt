-- Whether what is matched is so in order.
use Rattle.std.proofs.Common.{◌≡◌, ℕ, suc, ◌+◌, ◌<◌, ◌≤◌, Bool, true, false, cond, List, ◌∷◌, length, get_or, drop, Option, Some, None, refl, sym, ◌∙◌, ap}
use Rattle.std.specs.Prelude.{nat_lt}
use Rattle.std.proofs.lemmas.List.{at_drop_more, at_drop_all}
use Rattle.yaml_round_documents.specs.Matching.{in_order, order_after}

on : (from next : ℕ) (p : Option ℕ) (ps : List (Option ℕ)) → order_after from p ≡ Some next
    → in_order from (p ∷ ps) ≡ in_order next ps
on from next None ps e = let n : from ≡ next = cc in ap (λ z. in_order z ps) n
on from next (Some p) ps e =
    elim (nat_lt p from) as (λ b. cond b None (Some (suc p)) ≡ Some next → cond b false (in_order (suc p) ps) ≡ in_order next ps) [
      | true ↦ λ f. absurd (cc)
      | false ↦ λ f. let n : suc p ≡ next = cc in ap (λ z. in_order z ps) n
    ] e

off : (from : ℕ) (p : Option ℕ) (ps : List (Option ℕ)) → order_after from p ≡ None
    → in_order from (p ∷ ps) ≡ false
off from None ps e = absurd (cc)
off from (Some p) ps e =
    elim (nat_lt p from) as (λ b. cond b None (Some (suc p)) ≡ None → cond b false (in_order (suc p) ps) ≡ false) [
      | true ↦ λ f. refl
      | false ↦ λ f. absurd (cc)
    ] e

-- the rest decides
pub order_next : (partners : List (Option ℕ)) (at from next : ℕ) (d : Option ℕ) (all : Bool)
    → in_order from (drop at partners) ≡ all → at < length partners
    → order_after from (get_or partners at d) ≡ Some next
    → in_order next (drop (at + 1) partners) ≡ all
order_next partners at from next d all h w e =
    sym (at_drop_more (in_order from) partners at d w ∙ on from next (get_or partners at d) (drop (at + 1) partners) e) ∙ h

pub order_lost : (partners : List (Option ℕ)) (at from : ℕ) (d : Option ℕ) (all : Bool)
    → in_order from (drop at partners) ≡ all → at < length partners
    → order_after from (get_or partners at d) ≡ None → false ≡ all
order_lost partners at from d all h w e =
    sym (at_drop_more (in_order from) partners at d w ∙ off from (get_or partners at d) (drop (at + 1) partners) e) ∙ h

pub order_all : (partners : List (Option ℕ)) (at from : ℕ) (all : Bool)
    → in_order from (drop at partners) ≡ all → length partners ≤ at → true ≡ all
order_all partners at from all h w = sym (at_drop_all (in_order from) partners at w) ∙ h
