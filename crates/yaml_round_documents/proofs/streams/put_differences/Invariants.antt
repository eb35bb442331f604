use Rattle.std.proofs.Common.{◌≡◌, ◌++◌, map, take}
use Rattle.yaml_round_documents.specs.Streams.{in_document}
use Rattle.yaml_round_documents.proofs.streams.put_differences.Given as goal

abbrev pub invariant-loop-at : goal.invariant-loop-at
invariant-loop-at l = l.told.items ≡ l.initial.told.items ++ map (in_document l.document) (take l.at l.differences)
