-- What a document says: its nodes as a tree, and the events of a dump.
use Rattle.std.specs.Prelude.{ℕ, zero, suc, ℤ, pos, ◌==◌, Bool, true, false, if◌then◌else◌, List, [], ◌∷◌, ◌++◌, length, get_or, set, replicate, Option, Some, None, nat_eq, codes}
use Rattle.std.specs.Fmt.{digits_onto}
use Rattle.std.specs.Cmp.Lexicographic.{pointwise}
use Rattle.yaml_scan_model.specs.declared.name.yaml_scalar_style_t.{yaml_scalar_style_t}
use Rattle.yaml_scan_model.specs.declared.name.yaml_scalar_style_t.TheVariants.{YAML_ANY_SCALAR_STYLE}
use Rattle.yaml_parse_model.specs.declared.yaml_node_pair_t.{yaml_node_pair_t}
use Rattle.yaml_parse_model.specs.Nodes as model
use Rattle.yaml_parse_model.specs.Documents.{node_at, str_tag, seq_tag, map_tag}
use Rattle.yaml_parse_model.specs.Documents as documents
use Rattle.yaml_emit_layout.specs.Content.{Scalar, Start, Node, alias_node, scalar_node, sequence_node, mapping_node, Nodes, no_nodes, node, Pairs, no_pairs, pair, Opening, Document, Event, document_start, document_end, alias, scalar, sequence_start, sequence_end, mapping_start, mapping_end, is_flow_sequence, is_flow_mapping, node_events}
use Rattle.yaml_emit_graph.specs.declared.walk.Turn.{Turn}
use Rattle.yaml_emit_graph.specs.declared.walk.Turn.TheVariants.{First, Again, Leave}

-- ---- the walk: from the root in preorder, a pair's key before its value, descending only where a node is met first

-- the place in the list of nodes of the node under a number
abbrev pub place_at : ℤ → Option ℕ
place_at (pos (suc k)) = Some k
place_at _ = None

-- which nodes were met, by their places; what names no node counts as met
abbrev pub Met : Type 0
Met = List Bool

abbrev pub met_at : Met → Option ℕ → Bool
met_at met None = true
met_at met (Some k) = get_or met k true

abbrev pub is_met : Met → ℤ → Bool
is_met met id = met_at met (place_at id)

abbrev pub meet_at : Met → Option ℕ → Met
meet_at met None = met
meet_at met (Some k) = set met k true

abbrev pub meet : Met → ℤ → Met
meet met id = meet_at met (place_at id)

unfoldable pub pair_ids : List yaml_node_pair_t → List ℤ
pair_ids [] = []
pair_ids (p ∷ ps) = p.key ∷ p.value ∷ pair_ids ps

-- the nodes that a node holds
abbrev pub child_ids : model.NodeBody → List ℤ
child_ids model.no = []
child_ids (model.scalar value style) = []
child_ids (model.sequence items style) = items
child_ids (model.mapping pairs style) = pair_ids pairs

abbrev pub is_collection : model.NodeBody → Bool
is_collection model.no = false
is_collection (model.scalar value style) = false
is_collection (model.sequence items style) = true
is_collection (model.mapping pairs style) = true

-- the kind and the tag of a node
abbrev pub body_at : Option model.Node → model.NodeBody
body_at None = model.no
body_at (Some n) = n.body

abbrev pub tag_at : Option model.Node → List ℕ
tag_at None = str_tag
tag_at (Some n) = n.tag

abbrev pub body_of_id : List model.Node → ℤ → model.NodeBody
body_of_id nodes id = body_at (node_at nodes id)

abbrev pub tag_of_id : List model.Node → ℤ → List ℕ
tag_of_id nodes id = tag_at (node_at nodes id)

abbrev pub none_met : List model.Node → Met
none_met nodes = replicate (length nodes) false

mutual
  -- The visit of the node under a number: it was met before; or it is met first, and what it holds is visited after it. (A
  -- visit is cut off where the bound of the depth is used up: a law says that none is.)
  pub data Visit : Type 0 where
    cut_off : Visit
    met_again : ℤ → Visit
    met_first : ℤ → Visits → Visit

  pub data Visits : Type 0 where
    no_visits : Visits
    visit : Visit → Visits → Visits

abbrev pub in_front : Visit → Visits × Met → Visits × Met
in_front v r = (visit v r.0, r.1)

abbrev pub and_then : Visit × Met → (Met → Visits × Met) → Visits × Met
and_then r rest = in_front r.0 (rest r.1)

-- the nodes under some numbers, one after another
unfoldable pub visit_all : (ℤ → Met → Visit × Met) → List ℤ → Met → Visits × Met
visit_all one [] met = (no_visits, met)
visit_all one (id ∷ ids) met = and_then (one id met) (visit_all one ids)

abbrev pub first_with : ℤ → Visits × Met → Visit × Met
first_with id r = (met_first id r.0, r.1)

-- The node under a number, and which nodes are met then. The first number bounds the depth: there are no more nodes.
unfoldable pub visit_node : ℕ → List model.Node → ℤ → Met → Visit × Met
visit_node zero nodes id met = (cut_off, met)
visit_node (suc n) nodes id met = if is_met met id then (met_again id, met) else first_with id
    (visit_all (visit_node n nodes) (child_ids (body_of_id nodes id)) (meet met id))

-- no visit is cut off
abbrev mutual
  pub IsWhole : Visit → Type 0
  IsWhole cut_off = ⊥
  IsWhole (met_again id) = Unit {0}
  IsWhole (met_first id vs) = AreWhole vs

  pub AreWhole : Visits → Type 0
  AreWhole no_visits = Unit {0}
  AreWhole (visit v vs) = IsWhole v × AreWhole vs

-- the whole walk: the visit of the root
unfoldable pub walked : List model.Node → Visit
walked nodes = (visit_node (suc (length nodes)) nodes (pos 1) (none_met nodes)).0

-- ---- its turns, in their order

-- a collection is left after what it holds
abbrev pub leaving : ℤ → model.NodeBody → List Turn
leaving id body = if is_collection body then Leave id ∷ [] else []

abbrev mutual
  pub turns_of : List model.Node → Visit → List Turn
  turns_of nodes cut_off = []
  turns_of nodes (met_again id) = Again id ∷ []
  turns_of nodes (met_first id vs) =
      First id ∷ (turns_in nodes vs ++ leaving id (body_of_id nodes id))

  pub turns_in : List model.Node → Visits → List Turn
  turns_in nodes no_visits = []
  turns_in nodes (visit v vs) = turns_of nodes v ++ turns_in nodes vs

unfoldable pub turns : List model.Node → List Turn
turns nodes = turns_of nodes (walked nodes)

-- ---- the numbers of the nodes that are met again: a node's second visit gives it the next one, from 1

-- how many were given, and which node has which; 0 means none
pub record Numbering : Type 0 where
  pub given : ℕ
  pub table : List ℕ

abbrev pub next_number : Numbering → ℕ → Numbering
next_number s k = if get_or s.table k 1 == 0
    then record { given = suc s.given; table = set s.table k (suc s.given) } else s

abbrev pub again_at : Option ℕ → Numbering → Numbering
again_at None s = s
again_at (Some k) s = next_number s k

abbrev pub numbered_by : Turn → Numbering → Numbering
numbered_by (First id) s = s
numbered_by (Again id) s = again_at (place_at id) s
numbered_by (Leave id) s = s

unfoldable pub numbered : Numbering → List Turn → Numbering
numbered s [] = s
numbered s (t ∷ ts) = numbered (numbered_by t s) ts

abbrev pub none_numbered : ℕ → Numbering
none_numbered count = record { given = 0; table = replicate count 0 }

unfoldable pub numbers : List model.Node → List ℕ
numbers nodes = (numbered (none_numbered (length nodes)) (turns nodes)).table

abbrev pub number_in : List ℕ → Option ℕ → ℕ
number_in table None = 0
number_in table (Some k) = get_or table k 0

abbrev pub number_at : List ℕ → ℤ → ℕ
number_at table id = number_in table (place_at id)

-- `id` and the number, in three digits or more
abbrev pub lead : ℕ → List ℕ
lead size = if size == 1 then codes "id00" else if size == 2 then codes "id0" else codes "id"

-- the decimal digits, as many as the number has; below 2 ^ 64 they are what a program writes
unfoldable pub decimal_text : ℕ → List ℕ
decimal_text number = digits_onto (suc number) 10 false number []

unfoldable pub name_of : ℕ → List ℕ
name_of number = lead (length (decimal_text number)) ++ decimal_text number

abbrev pub anchor_of : ℕ → Option (List ℕ)
anchor_of number = if number == 0 then None else Some (name_of number)

-- ---- nodes and events

abbrev pub is_text : List ℕ → List ℕ → Bool
is_text a b = pointwise nat_eq a b

-- the tag of a text may be left out
abbrev pub graph_scalar : Option (List ℕ) → List ℕ → List ℕ → yaml_scalar_style_t → Scalar
graph_scalar anchor tag value style = record {
  anchor = anchor;
  tag = Some tag;
  value = value;
  plain = is_text tag str_tag;
  quoted = is_text tag str_tag;
  style = style;
}

abbrev pub graph_start : Option (List ℕ) → List ℕ → List ℕ → Bool → Start
graph_start anchor tag default flow = record {
  anchor = anchor;
  tag = Some tag;
  implicit = is_text
      tag default;
  flow = flow;
}

-- how a node begins; one without a kind is an empty text
abbrev pub opening_event : Option (List ℕ) → List ℕ → model.NodeBody → Event
opening_event anchor tag model.no = scalar (graph_scalar anchor tag [] YAML_ANY_SCALAR_STYLE)
opening_event anchor tag (model.scalar value style) = scalar (graph_scalar anchor tag value style)
opening_event anchor tag (model.sequence items style) = sequence_start
    (graph_start anchor tag seq_tag (is_flow_sequence style))
opening_event anchor tag (model.mapping pairs style) = mapping_start
    (graph_start anchor tag map_tag (is_flow_mapping style))

abbrev pub closing_event : model.NodeBody → Event
closing_event model.no = mapping_end
closing_event (model.scalar value style) = mapping_end
closing_event (model.sequence items style) = sequence_end
closing_event (model.mapping pairs style) = mapping_end

unfoldable pub turn_event : List ℕ → List model.Node → Turn → Event
turn_event table nodes (First id) = opening_event (anchor_of (number_at table id))
    (tag_of_id nodes id) (body_of_id nodes id)
turn_event table nodes (Again id) = alias (name_of (number_at table id))
turn_event table nodes (Leave id) = closing_event (body_of_id nodes id)

-- ---- the content: a node that is met first is written whole, with what it holds; one that is met again is an alias

-- what a mapping holds: a key, its value, and so on
abbrev pub two_by_two : Nodes → Pairs
two_by_two (node key (node value held)) = pair key value (two_by_two held)
two_by_two _ = no_pairs

-- a node that holds these
abbrev pub with_held : Option (List ℕ) → List ℕ → model.NodeBody → Nodes → Node
with_held anchor tag model.no held = scalar_node (graph_scalar anchor tag [] YAML_ANY_SCALAR_STYLE)
with_held anchor tag (model.scalar value style) held = scalar_node
    (graph_scalar anchor tag value style)
with_held anchor tag (model.sequence items style) held = sequence_node
    (graph_start anchor tag seq_tag (is_flow_sequence style)) held
with_held anchor tag (model.mapping pairs style) held = mapping_node
    (graph_start anchor tag map_tag (is_flow_mapping style)) (two_by_two held)

abbrev mutual
  pub node_said : List ℕ → List model.Node → Visit → Node
  node_said table nodes cut_off = alias_node []
  node_said table nodes (met_again id) = alias_node (name_of (number_at table id))
  node_said table nodes (met_first id vs) =
      with_held (anchor_of (number_at table id)) (tag_of_id nodes id) (body_of_id nodes id)
      (nodes_said table nodes vs)

  pub nodes_said : List ℕ → List model.Node → Visits → Nodes
  nodes_said table nodes no_visits = no_nodes
  nodes_said table nodes (visit v vs) = node (node_said table nodes v) (nodes_said table nodes vs)

unfoldable pub graph_root : List model.Node → Node
graph_root nodes = node_said (numbers nodes) nodes (walked nodes)

abbrev pub graph_opening : documents.Document → Opening
graph_opening d = record {
  version = d.version;
  directives = d.directives;
  implicit = d.start_implicit;
}

-- what a document with a root says
abbrev pub graph_content : documents.Document → Document
graph_content d = record {
  opening = graph_opening d;
  root = graph_root d.nodes;
  implicit_end = d.end_implicit;
}

abbrev pub document_events : Document → List Event
document_events d = document_start d.opening ∷ node_events d.root (document_end d.implicit_end ∷ [])

-- the events of a dump
unfoldable pub dumped : documents.Document → List Event
dumped d = document_events (graph_content d)
