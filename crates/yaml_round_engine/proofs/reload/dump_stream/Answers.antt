use Rattle.yaml_round_engine.proofs.Reloading.{stream_refused}
use Rattle.yaml_round_engine.proofs.reload.dump_stream.Goals as goal

pub returns-in-Err : goal.returns-in-Err
returns-in-Err c = stream_refused _ _ _ _ c.yaml_emitter_open.ensures.takes c.in-Err.ensures.answer
