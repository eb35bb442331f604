-- The events of a document that are still to come.
use Rattle.std.specs.Prelude.{◌≡◌, ◌≢◌, ◌≤◌, ℕ, Bool, true, false, List, [], ◌∷◌, ◌++◌, map, length, drop, Result, Ok, Err, IsUtf8}
use Rattle.std.specs.declared.alloc.AllocError.{AllocError}
use Rattle.yaml_parse_model.specs.Documents.{Document}
use Rattle.yaml_emit_layout.specs.Content.{Event, no_event, document_start, document_end}
use Rattle.yaml_emit_graph.specs.declared.graph.Events.{Events}
use Rattle.yaml_emit_graph.specs.declared.graph.DumpEvent.{DumpEvent}
use Rattle.yaml_emit_graph.specs.declared.graph.DumpEvent.TheVariants as at
use Rattle.yaml_emit_graph.specs.declared.walk.Turn.{Turn}
use Rattle.yaml_emit_graph.specs.declared.walk.Turn.TheVariants.{First, Again, Leave}
use Rattle.yaml_emit_graph.specs.Graph.{graph_opening, turn_event, number_at, name_of}

-- what is left of the nodes, and the document's end
abbrev pub nodes_left : Document → Events → List Event
nodes_left d e = map (turn_event e.numbers.items d.nodes) (drop e.given e.turns.items)
    ++ document_end d.end_implicit ∷ []

abbrev pub remaining_after : DumpEvent → Document → Events → List Event
remaining_after at.None d e = document_start (graph_opening d) ∷ nodes_left d e
remaining_after at.Start d e = nodes_left d e
remaining_after (at.Turn t) d e = nodes_left d e
remaining_after at.End d e = []

unfoldable pub remaining_events : Document → Events → List Event
remaining_events d e = remaining_after e.at d e

abbrev pub event_at : DumpEvent → Document → Events → Event
event_at at.None d e = no_event
event_at at.Start d e = document_start (graph_opening d)
event_at (at.Turn t) d e = turn_event e.numbers.items d.nodes t
event_at at.End d e = document_end d.end_implicit

-- the one that was given last
abbrev pub given_event : Document → Events → Event
given_event d e = event_at e.at d e

-- the name of a number
abbrev pub IsNameOf : ℕ → List ℕ → Type 0
IsNameOf number name = (name ≡ name_of number) × IsUtf8 name

-- the name in a turn's event, where it has one: a node that has a number, and an alias
abbrev pub IsNamed : List ℕ → Turn → List ℕ → Type 0
IsNamed table (First id) name = number_at table id ≢ 0 → IsNameOf (number_at table id) name
IsNamed table (Again id) name = IsNameOf (number_at table id) name
IsNamed table (Leave id) name = Unit {0}

abbrev pub IsNamedAt : DumpEvent → List ℕ → List ℕ → Type 0
IsNamedAt at.None table name = Unit {0}
IsNamedAt at.Start table name = Unit {0}
IsNamedAt (at.Turn t) table name = IsNamed table t name
IsNamedAt at.End table name = Unit {0}

-- no more turns were given than there are, and the name is that in the event that was given last
abbrev pub IsEvents : Events → Type 0
IsEvents e = (e.given ≤ length e.turns.items) × IsNamedAt e.at e.numbers.items e.name.items

-- the next event was given, and the others are still to come
abbrev pub GivesGraphEvent : Events → Result Bool AllocError → Events → Type 0
GivesGraphEvent old (Ok false) new = (d : Document) → remaining_events d old ≡ []
GivesGraphEvent old (Ok true) new = ((d : Document) → remaining_events d old ≡ given_event d new
    ∷ remaining_events d new) × IsEvents new
GivesGraphEvent old (Err e) new = Unit {0}
