-- What was passed is before what is left, in both.
use Rattle.std.proofs.Common.{length}
use Rattle.yaml_round_engine.specs.Dumps.{IsDump, dump_left, GoesPast}
use Rattle.yaml_round_engine.proofs.documents.same_dumps.Given as goal

abbrev pub invariant-events : goal.invariant-events
invariant-events l = record {
  first : IsDump l.first;
  second : IsDump l.second;
  past : GoesPast (dump_left l.fn.first) (dump_left l.fn.second) (dump_left l.first)
      (dump_left l.second) l.fn.front l.front;
}

abbrev pub decreases-events : goal.decreases-events
decreases-events l = length (dump_left l.first)
