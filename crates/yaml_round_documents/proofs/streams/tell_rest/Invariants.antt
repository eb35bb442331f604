use Rattle.std.proofs.Common.{◌≡◌, ◌++◌, drop}
use Rattle.yaml_round_documents.specs.Streams.{told_alone_from}
use Rattle.yaml_round_documents.proofs.streams.tell_rest.Given as goal

-- what is still to come
abbrev pub invariant-loop-at : goal.invariant-loop-at
invariant-loop-at l = l.told.items ++ told_alone_from l.cause l.at (drop l.at l.documents.items)
    ≡ l.initial.told.items ++ told_alone_from l.cause l.from (drop l.from l.documents.items)
