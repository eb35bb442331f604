use Rattle.std.proofs.Common.{◌≡◌, ◌++◌, length}
use Rattle.yaml_emit_graph.specs.Graph.{turns, numbers, numbered}
use Rattle.yaml_emit_graph.specs.Walk.{remaining_turns, IsWalk}
use Rattle.yaml_emit_graph.specs.Numbers.{numbering_of, IsNumbering}
use Rattle.yaml_emit_graph.proofs.numbers.walk_nodes.Given as goal

-- what was met is listed and numbered, and the numbers of what comes are still to be given
abbrev pub invariant-loop-turns : goal.invariant-loop-turns
invariant-loop-turns g l = let nodes = g.G.Walkable.nodes l.graph in record {
  walk : IsWalk nodes l.walk;
  met : turns nodes ≡ l.turns.items ++ remaining_turns nodes l.walk;
  given : IsNumbering (numbering_of l.numbers);
  same : numbers nodes ≡ (numbered (numbering_of l.numbers) (remaining_turns nodes l.walk)).table;
}

abbrev pub decreases-loop-turns : goal.decreases-loop-turns
decreases-loop-turns g l = length (remaining_turns (g.G.Walkable.nodes l.graph) l.walk)
