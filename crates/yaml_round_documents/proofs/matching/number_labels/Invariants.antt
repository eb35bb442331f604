use Rattle.yaml_round_documents.proofs.Numbering.{NumberedTo}
use Rattle.yaml_round_documents.proofs.matching.number_labels.Given as goal

abbrev pub invariant-loop-at : goal.invariant-loop-at
invariant-loop-at l = NumberedTo l.labels l.at l.names.items l.counts
