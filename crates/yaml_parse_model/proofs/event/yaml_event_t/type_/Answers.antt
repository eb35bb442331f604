use Rattle.std.proofs.Common.{refl}
use Rattle.yaml_parse_model.proofs.event.yaml_event_t.type_.Goals as goal

pub returns-in-StreamEnd : goal.returns-in-StreamEnd
returns-in-StreamEnd c = rw c.in-StreamEnd.is refl
