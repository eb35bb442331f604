use Rattle.yaml_round_documents.specs.Streams.{TellsTo}
use Rattle.yaml_round_documents.proofs.streams.tell_common.Given as goal

abbrev pub invariant-loop-at : goal.invariant-loop-at
invariant-loop-at l = TellsTo l.first.items l.second.items l.at l.initial.stream l.stream
