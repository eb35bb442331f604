-- The second input's event is beside the first's.
use Rattle.yaml_round_engine.proofs.Stepping.{beside}
use Rattle.yaml_round_engine.proofs.compare.compared_next.Goals as goal

pub returns-in-Event : goal.returns-in-Event
returns-in-Event c =
    beside c.args.first.now c.next.new.self c.args.second.now c.compared_event.new.second
    c.compared_event.result c.in-Event.ensures c.compared_event.ensures
