-- The events of a document go on.
use Rattle.std.proofs.Common.{◌≡◌, ◌+◌, ◌<◌, ◌≤◌, ◌∷◌, length, get_or, ℕ, refl, arith}
use Rattle.std.specs.Prelude.{Vec}
use Rattle.std.specs.Global.{Global}
use Rattle.std.proofs.lemmas.List.{drop_all, drop_more}
use Rattle.yaml_parse_model.specs.Documents.{Document}
use Rattle.yaml_emit_layout.specs.Content.{document_end}
use Rattle.yaml_emit_graph.specs.declared.graph.Events.{Events}
use Rattle.yaml_emit_graph.specs.declared.graph.DumpEvent.TheVariants as at
use Rattle.yaml_emit_graph.specs.declared.walk.Turn.{Turn}
use Rattle.yaml_emit_graph.specs.Graph.{turns, numbers, turn_event, dumped}
use Rattle.yaml_emit_graph.specs.Events.{remaining_events, nodes_left, IsEvents}
use Rattle.yaml_emit_graph.proofs.Contents.{dumped_turns}
use Rattle.yaml_emit_graph.proofs.Joining.{turns_joined}

pub turn_comes : (d : Document) (old : Events) (t : Turn) (name : Vec ℕ Global)
    → old.given < length old.turns.items → t ≡ get_or old.turns.items old.given t
    → nodes_left d old ≡ turn_event old.numbers.items d.nodes t
    ∷ remaining_events d (record old { given = old.given + 1; at = at.Turn t; name = name })
unfolding remaining_events
turn_comes d old t name h i = grind (arith, drop_more)

pub end_comes : (d : Document) (old : Events) → length old.turns.items ≤ old.given
    → nodes_left d old ≡ document_end d.end_implicit ∷ remaining_events d (record old { at = at.End })
unfolding remaining_events
end_comes d old h = rw (drop_all old.given old.turns.items h) refl

pub begin_comes : (d : Document) (e : Events) → e.turns.items ≡ turns d.nodes
    → e.numbers.items ≡ numbers d.nodes → e.given ≡ 0 → e.at ≡ at.None
    → IsEvents e × (remaining_events d e ≡ dumped d)
unfolding remaining_events
begin_comes d e t n g p = grind (arith, turns_joined, dumped_turns)
