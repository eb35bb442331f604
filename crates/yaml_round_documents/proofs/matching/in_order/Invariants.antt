use Rattle.std.proofs.Common.{◌≡◌, drop}
use Rattle.yaml_round_documents.specs.Matching.{in_order}
use Rattle.yaml_round_documents.proofs.matching.in_order.Given as goal

abbrev pub invariant-loop-at : goal.invariant-loop-at
invariant-loop-at l = in_order l.from (drop l.at l.partners) ≡ in_order 0 l.partners
