use Rattle.yaml_emit_machine.proofs.Emitting.{inside_front}
use Rattle.yaml_emit_machine.proofs.emitter.output.Goals as goal

pub returns-clause-front : goal.returns-clause-front
returns-clause-front c = rw (← c.emitter.view_is, c.output.ensures) (inside_front c.emitter.inside c.emitter.invariant)
