use Rattle.yaml_emit.proofs.emitter.yaml_emitter_emit_ref.Goals as goal

pub returns : goal.returns
returns c = record {
  takes = c.take_event.ensures.takes;
  memory = c.take_event.ensures.memory;
  blames = c.take_event.ensures.blames;
  stays = c.take_event.ensures.stays;
  few = c.take_event.ensures.few;
  opened = c.take_event.ensures.opened;
  last = c.take_event.ensures.last;
}
