use Rattle.std.proofs.Common.{◌≡◌, ◌++◌, drop}
use Rattle.yaml_round_documents.specs.Pairs.{places_from}
use Rattle.yaml_round_documents.proofs.held.place_labels.Given as goal

abbrev pub invariant-loop-at : goal.invariant-loop-at
invariant-loop-at l = l.labels.items ++ places_from l.at (drop l.at l.items) ≡ places_from 0 l.items
