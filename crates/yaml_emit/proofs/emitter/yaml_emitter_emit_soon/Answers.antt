use Rattle.yaml_emit.proofs.emitter.yaml_emitter_emit_soon.Goals as goal

pub returns : goal.returns
returns c = record { takes = c.take_soon.ensures.takes; stays = c.take_soon.ensures.stays }
