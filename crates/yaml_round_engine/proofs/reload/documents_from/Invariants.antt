-- What was loaded is a front, and the others are left.
use Rattle.std.proofs.Common.{◌≡◌, ◌++◌, length, true}
use Rattle.yaml_round_engine.specs.Reload.{to_load}
use Rattle.yaml_round_content.specs.DumpsEvents.{AreNumerable}
use Rattle.yaml_round_engine.proofs.reload.documents_from.Given as goal

abbrev pub invariant-documents : goal.invariant-documents
invariant-documents l = record {
  between : l.reading.parser.between ≡ true;
  documents : l.documents.items ++ (to_load l.reading.parser).documents
      ≡ (to_load l.fn.reading.parser).documents;
  small : AreNumerable l.documents.items;
  fault : (to_load l.reading.parser).fault ≡ (to_load l.fn.reading.parser).fault;
}

abbrev pub decreases-documents : goal.decreases-documents
decreases-documents l = length l.reading.parser.events
