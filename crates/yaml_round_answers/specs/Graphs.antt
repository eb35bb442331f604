-- A document's graph by records: the kind of each node, and the numbers of the nodes that it holds.
use Rattle.std.specs.Prelude.{◌≡◌, ◌+◌, ◌||◌, ℕ, ℤ, pos, Bool, true, false, if◌then◌else◌, List, [], ◌∷◌, length, map, slice_get, slice_range, nat_le, Option, None, Some, is_some}
use Rattle.std.specs.List.{list_all}
use Rattle.std.specs.Ordering.{int_eq}
use Rattle.yaml_parse_model.specs.declared.yaml_sequence_style_t.TheVariants.{YAML_ANY_SEQUENCE_STYLE}
use Rattle.yaml_parse_model.specs.Nodes.{Node, NodeBody}
use Rattle.yaml_parse_model.specs.Nodes as node
use Rattle.yaml_parse_model.specs.Documents.{str_tag, unplaced}
use Rattle.yaml_emit_graph.specs.Graph.{place_at, child_ids}
use Rattle.yaml_round_answers.specs.declared.graph_record.yaml_c_node.{yaml_c_node}
use Rattle.yaml_round_answers.specs.declared.graph_record.yaml_c_graph.{yaml_c_graph}

-- the part of a list from a place on, where it lies within the list
unfoldable pub part : {X : Type 0} → List X → ℕ → ℕ → Option (List X)
part xs first count =
    if nat_le (first + count) (length xs) then Some (slice_range xs first (first + count)) else None

abbrev pub or_nothing : {X : Type 0} → Option (List X) → List X
or_nothing None = []
or_nothing (Some xs) = xs

-- the number of a collection's kind
unfoldable pub holds : ℤ → Bool
holds kind = int_eq kind (pos 2) || int_eq kind (pos 3)

-- the numbers that a record holds
abbrev pub held_if : Bool → Option (List ℤ) → List ℤ
held_if true held = or_nothing held
held_if false held = []

unfoldable pub held_by : List ℤ → yaml_c_node → List ℤ
held_by list r = held_if (holds r.kind) (part list r.first r.count)

-- ---- whether records mean nodes: a kind is one of four, and what a collection holds lies within the list

unfoldable pub is_node : List ℤ → yaml_c_node → Bool
is_node list r =
    if int_eq r.kind (pos 0) then true
    else if int_eq r.kind (pos 1) then true
    else if int_eq r.kind (pos 2) then is_some (part list r.first r.count)
    else if int_eq r.kind (pos 3) then is_some (part list r.first r.count)
    else false

abbrev pub are_nodes : List ℤ → List yaml_c_node → Bool
are_nodes list rs = list_all (is_node list) rs

-- ---- which documents they show

-- libyaml's number of a node's kind
abbrev pub kind_of : NodeBody → ℤ
kind_of node.no = pos 0
kind_of (node.scalar value style) = pos 1
kind_of (node.sequence items style) = pos 2
kind_of (node.mapping pairs style) = pos 3

-- the record of a node: its kind, and the numbers that it holds, of a mapping each pair's key and its value
pub record ShowsNodeRecord (list : List ℤ) (r : yaml_c_node) (n : Node) : Type 0 where
  pub kind : r.kind ≡ kind_of n.body
  pub held : held_by list r ≡ child_ids n.body

abbrev pub ShowNodes : List ℤ → List yaml_c_node → List Node → Type 0
ShowNodes list [] [] = Unit {0}
ShowNodes list (r ∷ rs) (n ∷ ns) = ShowsNodeRecord list r n × ShowNodes list rs ns
ShowNodes list [] (n ∷ ns) = ⊥
ShowNodes list (r ∷ rs) [] = ⊥

abbrev pub Shows : yaml_c_graph → List Node → Type 0
Shows g nodes = ShowNodes g.held.now g.nodes.now nodes

-- ---- nodes that replace the records in a walk, which looks at no more than what they hold

abbrev pub body_if : Bool → List ℤ → NodeBody
body_if true held = node.sequence held YAML_ANY_SEQUENCE_STYLE
body_if false held = node.no

abbrev pub stand_in : List ℤ → yaml_c_node → Node
stand_in list r = unplaced (body_if (holds r.kind) (held_by list r)) str_tag

abbrev pub stand_ins : yaml_c_graph → List Node
stand_ins g = map (stand_in g.held.now) g.nodes.now

-- the kind of the node under a number, by its record
abbrev pub kind_in : Option yaml_c_node → ℤ
kind_in None = pos 0
kind_in (Some r) = r.kind

abbrev pub record_in : List yaml_c_node → Option ℕ → Option yaml_c_node
record_in rs None = None
record_in rs (Some k) = slice_get rs k

abbrev pub kind_at : yaml_c_graph → ℤ → ℤ
kind_at g id = kind_in (record_in g.nodes.now (place_at id))
