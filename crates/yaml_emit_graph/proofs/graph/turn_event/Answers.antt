use mir.Syntax.{w32}
use Rattle.std.proofs.Common.{rules, ap}
use Rattle.std.proofs.lemmas.Int.{to_z-of_z}
use Rattle.yaml_emit_layout.specs.Content.{alias}
use Rattle.yaml_emit_graph.specs.Graph.{turn_event}
use Rattle.yaml_emit_graph.proofs.graph.turn_event.Goals as goal

pub returns-in-First-clause-is : goal.returns-in-First-clause-is
unfolding turn_event
returns-in-First-clause-is c = rw c.in-First.is (rw (c.anchor_if.ensures.is, c.number_of.ensures, to_z-of_z w32 c.in-First.id (search rules)) at c.opening_event.ensures.is)

pub returns-in-Again-clause-is : goal.returns-in-Again-clause-is
unfolding turn_event
returns-in-Again-clause-is c = rw c.in-Again.is (ap alias (rw c.in-Again.is at c.requires).0)

pub returns-in-Leave-clause-is : goal.returns-in-Leave-clause-is
unfolding turn_event
returns-in-Leave-clause-is c = rw (c.in-Leave.is, ← to_z-of_z w32 c.in-Leave.id (search rules)) c.closing_event.ensures.is
