use Rattle.std.proofs.Common.{◌≡◌, map, take}
use Rattle.yaml_emit_graph.specs.Graph.{number_at}
use Rattle.yaml_round_documents.proofs.held.label_keys.Given as goal

abbrev pub invariant-loop-at : goal.invariant-loop-at
invariant-loop-at l = l.keys.items ≡ map (λ p. number_at l.labels p.key) (take l.at l.pairs)
