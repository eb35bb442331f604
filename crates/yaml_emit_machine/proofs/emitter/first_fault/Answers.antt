use Rattle.yaml_emit_machine.proofs.Emitting.{inside_limited}
use Rattle.yaml_emit_machine.proofs.emitter.first_fault.Goals as goal

pub returns-clause-limited : goal.returns-clause-limited
returns-clause-limited c = rw (← c.emitter.view_is) (inside_limited c.emitter.inside c.emitter.invariant)
