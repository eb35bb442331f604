use Rattle.std.proofs.Common.{◌≡◌, map, take}
use Rattle.yaml_round_documents.proofs.held.values_of.Given as goal

abbrev pub invariant-loop-at : goal.invariant-loop-at
invariant-loop-at l = l.values.items ≡ map (λ p. p.value) (take l.at l.pairs)
