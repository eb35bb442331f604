use Rattle.std.proofs.Common.{◌≡◌, drop}
use Rattle.yaml_round_documents.specs.Ranks.{number_from}
use Rattle.yaml_round_documents.proofs.shape.number_of.Given as goal

-- what is left decides
abbrev pub invariant-loop-byte : goal.invariant-loop-byte
invariant-loop-byte l = number_from 0 l.text ≡ number_from l.number (drop l.byte-index l.text)
