-- The repeated keys of the first documents are listed, and the others are left.
use Rattle.std.proofs.Common.{◌≡◌, length, true}
use Rattle.yaml_round_engine.specs.Reload.{to_load}
use Rattle.yaml_round.proofs.KeysTold.{TellsOn}
use Rattle.yaml_round.proofs.check_keys.keys_from.Given as goal

abbrev pub invariant-documents : goal.invariant-documents
invariant-documents l = record {
  between : l.reading.parser.between ≡ true;
  told : TellsOn (to_load l.reading.parser).documents l.told.items
      (to_load l.fn.reading.parser).documents;
  fault : (to_load l.reading.parser).fault ≡ (to_load l.fn.reading.parser).fault;
}

abbrev pub decreases-documents : goal.decreases-documents
decreases-documents l = length l.reading.parser.events
