-- Both events are judged, normalized.
use Rattle.std.proofs.Common.{subst}
use Rattle.yaml_parse.specs.Events.{EventBody, borrowed_body}
use Rattle.yaml_round_engine.specs.Compare.{JudgesEvents}
use Rattle.yaml_round_engine.proofs.Stepping.{judged_beside}
use Rattle.yaml_round_engine.proofs.compare.compared_event.Goals as goal

pub returns-in-Event : goal.returns-in-Event
returns-in-Event c =
    let first = subst (λ (b : EventBody). JudgesEvents b (borrowed_body c.event-in-Event.result) c.judged.result) c.event.ensures c.judged.ensures in
    judged_beside c.args.first.now.given c.args.second.now.parser c.judged.result c.next.new.self
    c.in-Event.ensures (subst (λ (b : EventBody). JudgesEvents c.args.first.now.given.body b c.judged.result) c.event-in-Event.ensures first)
