use Rattle.yaml_emit.proofs.emitter.yaml_emitter_initialize.Goals as goal

pub returns-clause-is : goal.returns-clause-is
returns-clause-is c = c.new_emitter.ensures
