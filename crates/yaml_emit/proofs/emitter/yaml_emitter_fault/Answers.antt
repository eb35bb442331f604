use Rattle.yaml_emit.proofs.emitter.yaml_emitter_fault.Goals as goal

pub returns : goal.returns
returns c = record {
  is = c.first_fault.ensures.is;
  tells = c.first_fault.ensures.tells;
  limited = c.first_fault.ensures.limited;
}
