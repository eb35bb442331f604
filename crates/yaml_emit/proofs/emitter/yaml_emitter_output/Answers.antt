use Rattle.yaml_emit.proofs.emitter.yaml_emitter_output.Goals as goal

pub returns-clause-bytes : goal.returns-clause-bytes
returns-clause-bytes c = c.output.ensures.bytes

pub returns-clause-front : goal.returns-clause-front
returns-clause-front c = c.output.ensures.front
