-- What has no partner, one after another.
use Rattle.std.proofs.Common.{◌≡◌, ℕ, ◌+◌, ◌<◌, ◌≤◌, List, ◌++◌, length, get_or, drop, Option, sym, ◌∙◌, ap, append_assoc, append-nil, add-one}
use Rattle.std.proofs.lemmas.List.{drop_more, drop_all}
use Rattle.yaml_round_documents.specs.declared.difference.yaml_node_cause_t.{yaml_node_cause_t}
use Rattle.yaml_round_documents.specs.declared.difference.yaml_node_difference_t.{yaml_node_difference_t}
use Rattle.yaml_round_documents.specs.declared.walk.yaml_node_match_t.{yaml_node_match_t as Pair}
use Rattle.yaml_round_documents.specs.Differences.{alone_at, told_alone}

pub alone_next : (n : ℕ) (p : Pair) (c : yaml_node_cause_t) (partners : List (Option ℕ)) (at : ℕ)
    (d : Option ℕ) (now next all : List yaml_node_difference_t)
    → now ++ told_alone n p c at (drop at partners) ≡ all → at < length partners
    → next ≡ now ++ alone_at n p c at (get_or partners at d)
    → next ++ told_alone n p c (at + 1) (drop (at + 1) partners) ≡ all
alone_next n p c partners at d now next all h w e =
    let x = get_or partners at d in
    let rest = drop (at + 1) partners in
    ap (λ z. z ++ told_alone n p c (at + 1) rest) e
    ∙ append_assoc now (alone_at n p c at x) (told_alone n p c (at + 1) rest)
    ∙ ap (λ z. now ++ (alone_at n p c at x ++ told_alone n p c z rest)) (add-one at)
    ∙ ap (λ z. now ++ told_alone n p c at z) (sym (drop_more partners at d w)) ∙ h

pub all_alone : (n : ℕ) (p : Pair) (c : yaml_node_cause_t) (partners : List (Option ℕ)) (at : ℕ)
    (now all : List yaml_node_difference_t) → now ++ told_alone n p c at (drop at partners) ≡ all
    → length partners ≤ at → now ≡ all
all_alone n p c partners at now all h w =
    sym (append-nil now) ∙ ap (λ z. now ++ told_alone n p c at z) (sym (drop_all at partners w)) ∙ h
