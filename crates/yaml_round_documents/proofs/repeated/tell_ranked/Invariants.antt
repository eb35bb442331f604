use Rattle.yaml_round_documents.specs.Telling.{label_by}
use Rattle.yaml_round_documents.proofs.Meeting.{SoFar}
use Rattle.yaml_round_documents.proofs.repeated.tell_ranked.Given as goal

abbrev pub invariant-loop-place : goal.invariant-loop-place
invariant-loop-place l = SoFar l.document.nodes (label_by l.ranks) l.pairs l.initial.told.items l.place l.met l.told.items
