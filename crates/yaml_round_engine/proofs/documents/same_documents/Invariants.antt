-- What was passed is before what is left, in both.
use Rattle.std.proofs.Common.{length}
use Rattle.yaml_round_engine.specs.Dumps.{documents_left, GoesPast}
use Rattle.yaml_round_engine.proofs.documents.same_documents.Given as goal

abbrev pub invariant-documents : goal.invariant-documents
invariant-documents l = record {
  past : GoesPast (documents_left l.fn.first.items) (documents_left l.fn.second.items)
      (documents_left l.first.items) (documents_left l.second.items) l.fn.front l.front;
}

abbrev pub decreases-documents : goal.decreases-documents
decreases-documents l = length l.first.items
