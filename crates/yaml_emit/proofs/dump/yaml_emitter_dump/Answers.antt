-- After a fault a dump counts for nothing. All is answered, so that nothing is searched for.
use Rattle.std.proofs.Common.{[], refl}
use Rattle.yaml_emit_machine.specs.scan_types.Faults.{fault_of}
use Rattle.yaml_emit.proofs.Told.{on_ok, on_err, never, opens_nothing}
use Rattle.yaml_emit.proofs.dump.yaml_emitter_dump.Goals as goal

pub returns-in-Err : goal.returns-in-Err
returns-in-Err c = record {
  takes = c.in-Err.ensures.stuck _ [];
  memory = λ unnoted. refl;
  tells = c.in-Err.ensures.tells;
  answer = c.in-Err.ensures.answer;
  few = c.in-Err.ensures.few;
  opened = tt;
  kept = λ on. on;
  closed = λ rooted. refl;
  ended = λ rootless. tt;
  refused = refl;
  opens = opens_nothing _ (fault_of c.in-Err.fault) c.in-Err.ensures.answer;
  begun = c.in-Err.ensures.begun;
  stays = λ f some. refl;
}

pub returns-in-Ok : goal.returns-in-Ok
returns-in-Ok c = record {
  takes = c.dump_all.ensures.takes;
  memory = c.dump_all.ensures.memory;
  tells = c.answer-in-Ok.ensures.tells;
  answer = c.answer-in-Ok.ensures.answer;
  few = c.answer-in-Ok.ensures.few;
  opened = on_ok _ _ _ c.answer-in-Ok.ensures.answer c.dump_all.ensures.opened;
  kept = c.dump_all.ensures.kept;
  closed = c.dump_all.ensures.closed;
  ended = λ rootless. on_ok _ _ _ c.answer-in-Ok.ensures.answer (c.dump_all.ensures.ended rootless);
  refused = on_err _ _ _ c.answer-in-Ok.ensures.answer c.dump_all.ensures.refused;
  opens = c.dump_all.ensures.opens;
  begun = c.dump_all.ensures.begun;
  stays = λ f some. never _ _ f c.in-Ok.ensures.answer some;
}
