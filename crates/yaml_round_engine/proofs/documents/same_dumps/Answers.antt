-- One event more was passed.
use Rattle.yaml_parse.specs.Events.{borrowed_body}
use Rattle.yaml_round_engine.specs.Dumps.{given}
use Rattle.yaml_round_engine.proofs.Dumping.{goes_on, goes_one, parts_here}
use Rattle.yaml_round_engine.proofs.documents.same_dumps.Goals as goal

pub events-preserved : goal.events-preserved
events-preserved c =
    let b = rw c.in-Ok-Same.field-0-is at c.in-Ok-Same.ensures in
    record {
      first = b.dumps.0;
      second = b.dumps.1;
      past = goes_on _ _ _ _ _ _ c.args.front.now c.events.front c.pass.new.self c.events.invariant.past
          (goes_one _ _ _ _ (given c.turned.new.first) (borrowed_body c.event.result) c.events.front c.pass.new.self c.event.ensures b.first_events b.second_events c.in-Ok.ensures);
    }

pub returns-in-Ok-Different : goal.returns-in-Ok-Different
returns-in-Ok-Different c =
    let d = rw c.in-Ok-Different.field-0-is at c.in-Ok-Different.ensures in
    parts_here _ _ _ _ _ c.args.front.now c.events.front c.part_at.new.self c.events.invariant.past d c.part_at.ensures
