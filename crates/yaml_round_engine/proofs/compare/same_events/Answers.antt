-- The place where the events differ.
use Rattle.std.proofs.Common.{◌∙◌, ap}
use Rattle.yaml_parse.specs.Events.{Event, borrowed_body}
use Rattle.yaml_round_engine.proofs.Stepping.{parted_here, parted_behind}
use Rattle.yaml_round_engine.proofs.compare.same_events.Goals as goal

pub returns-in-Different-clause-parted : goal.returns-in-Different-clause-parted
returns-in-Different-clause-parted c =
    c.events.invariant.parted c.part_at.new.self
    (parted_here c.args.kept c.events.first.parser.events c.events.second.parser.events c.events.trail c.part_at.new.self
    (c.in-Different.ensures.apart c.part_at.new.self.place c.part_at.ensures.tells c.part_at.ensures.cause) c.part_at.ensures.path)

pub events-preserved : goal.events-preserved
events-preserved c =
    let b = c.in-Same.ensures in
    let before = c.events.invariant in
    record {
      first_real = b.real.0;
      second_real = b.real.1;
      first = b.first_ending ∙ before.first;
      second = b.second_ending ∙ before.second;
      alike = (λ e. b.alike.0 (before.alike.0 e), λ e. before.alike.1 (b.alike.1 e));
      parted = λ t h. before.parted t
          (parted_behind c.args.kept c.events.first.parser.events c.events.second.parser.events c.compared_next.new.first.parser.events c.compared_next.new.second.parser.events
          b.front b.other_front (borrowed_body c.event.result) c.events.trail c.go_past.new.self t
          b.first_events b.second_events b.says (c.event.ensures ∙ ap (λ (e : Event). e.body) b.given) c.in-Ok.ensures h);
    }
