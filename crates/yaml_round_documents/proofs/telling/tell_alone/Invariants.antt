use Rattle.std.proofs.Common.{◌≡◌, ◌++◌, drop}
use Rattle.yaml_round_documents.specs.Differences.{told_alone}
use Rattle.yaml_round_documents.proofs.telling.tell_alone.Given as goal

-- what is still to come
abbrev pub invariant-loop-at : goal.invariant-loop-at
invariant-loop-at l = l.told.items ++ told_alone l.number l.pair l.cause l.at (drop l.at l.partners)
    ≡ l.initial.told.items ++ told_alone l.number l.pair l.cause 0 l.partners
