use Rattle.yaml_emit.proofs.emitter.yaml_emitter_opened.Goals as goal

pub returns : goal.returns
returns c = c.is_opened.ensures.is
