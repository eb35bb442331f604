use Rattle.yaml_emit.proofs.emitter.yaml_emitter_fresh.Goals as goal

pub returns : goal.returns
returns c = c.is_fresh.ensures
