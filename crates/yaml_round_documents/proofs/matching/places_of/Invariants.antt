use Rattle.yaml_round_documents.proofs.Placing.{PlacedTo}
use Rattle.yaml_round_documents.proofs.matching.places_of.Given as goal

abbrev pub invariant-loop-at : goal.invariant-loop-at
invariant-loop-at l = PlacedTo l.names l.at l.places
