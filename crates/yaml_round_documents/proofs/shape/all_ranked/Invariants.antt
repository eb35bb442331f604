use Rattle.std.proofs.Common.{◌≡◌, drop}
use Rattle.yaml_round_documents.specs.Ranks.{all_ranked}
use Rattle.yaml_round_documents.specs.Telling.{pair_keys}
use Rattle.yaml_round_documents.proofs.shape.all_ranked.Given as goal

-- what is left decides
abbrev pub invariant-loop-at : goal.invariant-loop-at
invariant-loop-at l = all_ranked l.ranks (pair_keys l.pairs) ≡ all_ranked l.ranks (pair_keys (drop l.at l.pairs))
