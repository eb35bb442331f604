use Rattle.yaml_emit.proofs.resume.yaml_emitter_resume.Goals as goal

pub returns-in-Ok-clause-is : goal.returns-in-Ok-clause-is
returns-in-Ok-clause-is c = c.in-Ok.ensures
