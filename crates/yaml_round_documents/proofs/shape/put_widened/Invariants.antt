use Rattle.std.proofs.Common.{◌≡◌, ◌++◌, take}
use Rattle.yaml_round_documents.proofs.shape.put_widened.Given as goal

abbrev pub invariant-loop-byte : goal.invariant-loop-byte
invariant-loop-byte l = l.room.items ≡ l.initial.room.items ++ take l.byte-index l.text
