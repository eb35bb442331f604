use Rattle.std.proofs.Common.{rules}
use Rattle.yaml_emit_machine.specs.Held.{is_ready}
use Rattle.yaml_emit_machine.proofs.emitter.resume.resumed.Goals as goal

pub invariant_of-result : goal.invariant_of-result
unfolding is_ready
invariant_of-result c =
    let none = c.nothing.ensures.events in
    record {
      faulty = search rules;
      few = search rules;
      texts = search rules;
      begun = search rules;
      limited = search rules;
      running = search rules;
      forced = search rules;
      memory = search rules;
    }
