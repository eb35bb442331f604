use Rattle.std.proofs.Common.{◌≡◌, map, take}
use Rattle.yaml_round_documents.specs.Telling.{pair_keys}
use Rattle.yaml_round_documents.specs.Texts.{key_number}
use Rattle.yaml_round_documents.proofs.apart.put_numbers.Given as goal

abbrev pub invariant-loop-place : goal.invariant-loop-place
invariant-loop-place l = l.room.items ≡ map (key_number l.document.nodes) (pair_keys (take l.place l.pairs))
