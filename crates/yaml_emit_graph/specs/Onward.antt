-- The walk of a document's nodes once more, with what follows handed on: what is said of a walk that has begun. `turns_onward`
-- and `root_onward` are `turns` and `graph_root` (`proofs/Joining.antt`).
use Rattle.std.specs.Prelude.{ℕ, zero, suc, ℤ, pos, if◌then◌else◌, List, [], ◌∷◌, length, Option}
use Rattle.yaml_scan_model.specs.declared.name.yaml_scalar_style_t.TheVariants.{YAML_ANY_SCALAR_STYLE}
use Rattle.yaml_parse_model.specs.declared.yaml_node_pair_t.{yaml_node_pair_t}
use Rattle.yaml_parse_model.specs.Nodes as model
use Rattle.yaml_parse_model.specs.Documents.{seq_tag, map_tag}
use Rattle.yaml_emit_layout.specs.Content.{Node, alias_node, scalar_node, sequence_node, mapping_node, Nodes, no_nodes, node, Pairs, no_pairs, pair, is_flow_sequence, is_flow_mapping}
use Rattle.yaml_emit_graph.specs.declared.walk.Turn.{Turn}
use Rattle.yaml_emit_graph.specs.declared.walk.Turn.TheVariants.{First, Again, Leave}
use Rattle.yaml_emit_graph.specs.Graph.{Met, is_met, meet, none_met, child_ids, is_collection, body_of_id, tag_of_id, numbers, number_at, name_of, anchor_of, graph_scalar, graph_start}

-- ---- the turns

-- what a walk still meets, by what was met
abbrev pub Rest : Type 0
Rest = Met → List Turn

unfoldable pub over : (ℤ → Rest → Rest) → List ℤ → Rest → Rest
over visit [] rest = rest
over visit (id ∷ ids) rest = visit id (over visit ids rest)

-- a collection is left after what it holds
abbrev pub inside : (ℤ → Rest → Rest) → ℤ → model.NodeBody → Rest → Rest
inside visit id body rest = if is_collection body then over visit (child_ids body)
    (λ m. Leave id ∷ rest m) else rest

-- From a node on. The first number bounds the depth: there are no more nodes.
unfoldable pub visits : ℕ → List model.Node → ℤ → Rest → Rest
visits zero nodes id rest met = Again id ∷ rest met
visits (suc n) nodes id rest met = if is_met met id then Again id ∷ rest met else First id ∷ inside
    (visits n nodes) id (body_of_id nodes id) rest (meet met id)

abbrev pub nothing_left : Rest
nothing_left met = []

unfoldable pub turns_onward : List model.Node → List Turn
turns_onward nodes = visits (suc (length nodes)) nodes (pos 1) nothing_left (none_met nodes)

-- ---- the content

unfoldable pub items_by : (ℤ → (Node → Met → Node) → Met → Node) → List ℤ → (Nodes → Met → Node)
    → Met → Node
items_by visit [] rest met = rest no_nodes met
items_by visit (id ∷ ids) rest met = visit id
    (λ v m. items_by visit ids (λ vs n. rest (node v vs) n) m) met

unfoldable pub pairs_by : (ℤ → (Node → Met → Node) → Met → Node) → List yaml_node_pair_t
    → (Pairs → Met → Node) → Met → Node
pairs_by visit [] rest met = rest no_pairs met
pairs_by visit (p ∷ ps) rest met = visit p.key
    (λ k m. visit p.value (λ v n. pairs_by visit ps (λ vs o. rest (pair k v vs) o) n) m) met

abbrev pub node_by : (ℤ → (Node → Met → Node) → Met → Node) → Option (List ℕ) → List ℕ
    → model.NodeBody → (Node → Met → Node) → Met → Node
node_by visit anchor tag model.no rest = rest
    (scalar_node (graph_scalar anchor tag [] YAML_ANY_SCALAR_STYLE))
node_by visit anchor tag (model.scalar value style) rest = rest
    (scalar_node (graph_scalar anchor tag value style))
node_by visit anchor tag (model.sequence items style) rest = items_by visit items
    (λ vs. rest (sequence_node (graph_start anchor tag seq_tag (is_flow_sequence style)) vs))
node_by visit anchor tag (model.mapping pairs style) rest = pairs_by visit pairs
    (λ vs. rest (mapping_node (graph_start anchor tag map_tag (is_flow_mapping style)) vs))

unfoldable pub content_by : ℕ → List ℕ → List model.Node → ℤ → (Node → Met → Node) → Met → Node
content_by zero table nodes id rest met = rest (alias_node (name_of (number_at table id))) met
content_by (suc n) table nodes id rest met =
    if is_met met id then rest (alias_node (name_of (number_at table id))) met
    else node_by (content_by n table nodes) (anchor_of (number_at table id)) (tag_of_id nodes id)
    (body_of_id nodes id) rest (meet met id)

abbrev pub itself : Node → Met → Node
itself v met = v

unfoldable pub root_onward : List model.Node → Node
root_onward nodes = content_by (suc (length nodes)) (numbers nodes) nodes (pos 1) itself
    (none_met nodes)
