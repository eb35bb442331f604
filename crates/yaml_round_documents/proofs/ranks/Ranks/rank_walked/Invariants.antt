use Rattle.yaml_round_documents.specs.Ranks.{RanksOn}
use Rattle.yaml_round_documents.proofs.ranks.Ranks.rank_walked.Given as goal

abbrev pub invariant-loop-turn : goal.invariant-loop-turn
invariant-loop-turn l = RanksOn l.document.nodes l.initial.self l.self
