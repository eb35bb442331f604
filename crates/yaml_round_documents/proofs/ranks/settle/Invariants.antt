use Rattle.yaml_round_documents.proofs.Settling.{SettledTo}
use Rattle.yaml_round_documents.proofs.ranks.settle.Given as goal

abbrev pub invariant-loop-at : goal.invariant-loop-at
invariant-loop-at l = SettledTo l.initial.table l.floor l.at l.table
