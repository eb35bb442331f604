use Rattle.std.proofs.Common.{refl, sym, ap}
use Rattle.yaml_emit_machine.specs.Held.{is_ready}
use Rattle.yaml_emit_machine.proofs.Emitting.{fresh_refusal}
use Rattle.yaml_emit_machine.proofs.emitter.new_emitter.Goals as goal

pub invariant_of-result : goal.invariant_of-result
unfolding is_ready
invariant_of-result c = record {
  faulty = sym (fresh_refusal _ _ c.new.ensures.fresh);
  few = λ g. ap is_ready c.nothing.ensures.events;
  texts = c.nothing.ensures.utf8;
  begun = λ f. (c.nothing.ensures.events, (refl, (c.new.ensures.fresh.output, c.new.ensures.fresh.status)));
  limited = c.new.ensures.limit;
  running = λ o. absurd (cc);
  forced = λ off. absurd (cc);
  memory = λ g. c.new.ensures.fresh.starved;
}
