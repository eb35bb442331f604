use Rattle.std.proofs.Common.{length}
use Rattle.yaml_emit_machine.specs.Dumping.{LaysDump, MayDump}
use Rattle.yaml_emit_graph.specs.Events.{remaining_events}
use Rattle.yaml_emit_machine.proofs.emitter.yaml_emitter_t.dump_events.Given as goal

-- some events were taken, and the others are still to come
abbrev pub invariant-loop : goal.invariant-loop
invariant-loop l = record {
  may : MayDump l.document l.self l.events;
  dumps : LaysDump l.initial.self (remaining_events l.document l.initial.events) l.self
      (remaining_events l.document l.events);
}

abbrev pub decreases-loop : goal.decreases-loop
decreases-loop l = length (remaining_events l.document l.events)
