use Rattle.yaml_round_documents.specs.Telling.{IsTeller}
use Rattle.yaml_round_documents.proofs.Meeting.{NodesSoFar}
use Rattle.yaml_round_documents.proofs.repeated.told_keys.Given as goal

abbrev pub invariant-loop-place : goal.invariant-loop-place
invariant-loop-place l = record {
  teller : IsTeller l.document.nodes l.teller;
  told : NodesSoFar l.document.nodes l.place l.told.items;
}
