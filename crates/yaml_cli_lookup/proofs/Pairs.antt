-- The first value, a pair at a time.
use Rattle.std.proofs.Common.{◌≡◌, ◌∙◌, ap, sym, ℕ, ◌+◌, ◌<◌, ◌≤◌, List, length, drop, get_or, Some, None}
use Rattle.std.proofs.lemmas.List.{drop_more, drop_all}
use Rattle.std.specs.Option.{option_or}
use Rattle.yaml_parse.specs.Nodes.{Node}
use Rattle.yaml_parse.specs.declared.yaml_node_pair_t.{yaml_node_pair_t}
use Rattle.yaml_cli_lookup.specs.Values.{value_in, first_value}

-- what is left begins with the pair at that place
value_from : (nodes : List Node) (key : List ℕ) (ps : List yaml_node_pair_t) (i : ℕ)
    (y : yaml_node_pair_t) → i < length ps
    → first_value nodes key ps ≡ first_value nodes key (drop i ps)
    → first_value nodes key ps ≡ option_or (value_in nodes key (get_or ps i y))
    (first_value nodes key (drop (i + 1) ps))
unfolding first_value
value_from nodes key ps i y h e = e ∙ ap (first_value nodes key) (drop_more ps i y h)

pub value_found : (nodes : List Node) (key : List ℕ) (ps : List yaml_node_pair_t) (i : ℕ)
    (y : yaml_node_pair_t) (v : List ℕ)
    → i < length ps → first_value nodes key ps ≡ first_value nodes key (drop i ps)
    → Some v ≡ value_in nodes key (get_or ps i y) → Some v ≡ first_value nodes key ps
value_found nodes key ps i y v h e f =
    sym (value_from nodes key ps i y h e ∙ ap (λ z. option_or z (first_value nodes key (drop (i + 1) ps))) (sym f))

pub value_more : (nodes : List Node) (key : List ℕ) (ps : List yaml_node_pair_t) (i : ℕ)
    (y : yaml_node_pair_t)
    → i < length ps → first_value nodes key ps ≡ first_value nodes key (drop i ps)
    → None ≡ value_in nodes key (get_or ps i y)
    → first_value nodes key ps ≡ first_value nodes key (drop (i + 1) ps)
value_more nodes key ps i y h e f =
    value_from nodes key ps i y h e ∙ ap (λ z. option_or z (first_value nodes key (drop (i + 1) ps))) (sym f)

pub value_none : (nodes : List Node) (key : List ℕ) (ps : List yaml_node_pair_t) (i : ℕ)
    → length ps ≤ i
    → first_value nodes key ps ≡ first_value nodes key (drop i ps) → None ≡ first_value nodes key ps
unfolding first_value
value_none nodes key ps i h e = sym (e ∙ ap (first_value nodes key) (drop_all _ _ h))
