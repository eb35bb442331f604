use Rattle.yaml_round_documents.specs.Ranks.{RanksOn}
use Rattle.yaml_round_documents.proofs.ranks.Ranks.rank_each_key.Given as goal

abbrev pub invariant-loop-at : goal.invariant-loop-at
invariant-loop-at l = RanksOn l.document.nodes l.initial.self l.self
