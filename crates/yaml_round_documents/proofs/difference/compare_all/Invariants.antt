use Rattle.yaml_round_documents.specs.Steps.{Compares, IsWalk}
use Rattle.yaml_round_documents.proofs.difference.compare_all.Given as goal

abbrev pub invariant-loop-done : goal.invariant-loop-done
invariant-loop-done l = IsWalk l.walk
    × Compares l.first.nodes l.second.nodes l.labels l.done l.walk l.told.items
