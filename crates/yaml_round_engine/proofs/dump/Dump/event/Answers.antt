-- What is borrowed says what the emitter's event does.
use Rattle.yaml_round_engine.proofs.Dumping.{event_said}
use Rattle.yaml_round_engine.proofs.dump.Dump.event.Goals as goal

pub returns : goal.returns
returns c = event_said _ _ c.event.ensures.is
