-- The turns of a dump as records.
use Rattle.std.specs.Prelude.{◌≡◌, ◌++◌, ℕ, ℤ, pos, if◌then◌else◌, List, [], ◌∷◌, map}
use Rattle.std.specs.Ordering.{int_eq}
use Rattle.yaml_parse_model.specs.Nodes.{Node}
use Rattle.yaml_parse_model.specs.Documents.{Document}
use Rattle.yaml_emit_graph.specs.emit_layout.Content.{document_start, document_end}
use Rattle.yaml_emit_graph.specs.declared.Turn.{Turn}
use Rattle.yaml_emit_graph.specs.declared.Turn.TheVariants.{First, Again, Leave}
use Rattle.yaml_emit_graph.specs.Graph.{body_of_id, number_at, numbers, turns, turn_event, graph_opening, dumped}
use Rattle.yaml_round_answers.specs.declared.graph_record.yaml_c_graph.{yaml_c_graph}
use Rattle.yaml_round_answers.specs.declared.graph_record.yaml_c_turn.{yaml_c_turn}
use Rattle.yaml_round_answers.specs.Graphs.{kind_of, kind_at, stand_ins}

-- ---- numbers, which are those of libyaml's events

-- how a node of that kind begins, and how it ends
unfoldable pub opening_kind : ℤ → ℤ
opening_kind k = if int_eq k (pos 2) then pos 7 else if int_eq k (pos 3) then pos 9 else pos 6

unfoldable pub closing_kind : ℤ → ℤ
closing_kind k = if int_eq k (pos 2) then pos 8 else pos 10

-- ---- records

-- the record of a turn: by the kind of a node, and the numbers of nodes
abbrev pub turn_told : (ℤ → ℤ) → List ℕ → Turn → yaml_c_turn
turn_told kind table (First id) = record {
  kind = opening_kind (kind id);
  node = id;
  number = number_at table id;
}
turn_told kind table (Again id) = record { kind = pos 5; node = id; number = number_at table id }
turn_told kind table (Leave id) = record { kind = closing_kind (kind id); node = id; number = 0 }

-- the kinds of a document's nodes
abbrev pub node_kind : List Node → ℤ → ℤ
node_kind nodes id = kind_of (body_of_id nodes id)

-- The turns of a document's dump, one for each event between the document's start and its end.
pub record TellsTurns (d : Document) (given : List yaml_c_turn) : Type 0 where
  pub told : given ≡ map (turn_told (node_kind d.nodes) (numbers d.nodes)) (turns d.nodes)
  pub events : dumped d ≡ document_start (graph_opening d)
      ∷ (map (turn_event (numbers d.nodes) d.nodes) (turns d.nodes)
      ++ document_end d.end_implicit ∷ [])

-- ---- by records alone

abbrev pub turn_by : yaml_c_graph → List ℕ → Turn → yaml_c_turn
turn_by g table t = turn_told (kind_at g) table t

abbrev pub turns_by : yaml_c_graph → List yaml_c_turn
turns_by g = map (turn_by g (numbers (stand_ins g))) (turns (stand_ins g))
