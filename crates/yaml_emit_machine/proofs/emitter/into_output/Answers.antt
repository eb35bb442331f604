use Rattle.yaml_emit_machine.proofs.Emitting.{inside_front, inside_all}
use Rattle.yaml_emit_machine.proofs.emitter.into_output.Goals as goal

pub returns : goal.returns
returns c = record {
  bytes = rw (← c.emitter.view_is) c.into_output.ensures;
  front = rw (← c.emitter.view_is, c.into_output.ensures) (inside_front c.emitter.inside c.emitter.invariant);
  whole = rw (← c.emitter.view_is, c.into_output.ensures) (λ none x whole h. (inside_all c.emitter.inside c.emitter.invariant none x whole h).0);
  within = rw (← c.emitter.view_is) (λ none x whole h. (inside_all c.emitter.inside c.emitter.invariant none x whole h).1);
}
