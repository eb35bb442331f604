use Rattle.yaml_emit.proofs.resume.yaml_emitter_stand.Goals as goal

pub returns : goal.returns
returns c = c.stand-told.ensures
