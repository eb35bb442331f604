-- What is left compares as what there was, and where it parts, that parts.
use Rattle.std.proofs.Common.{◌≡◌, ◌↔◌, length}
use Rattle.yaml_round_reading.specs.Reading.{contents, AreReal}
use Rattle.yaml_round_engine.specs.declared.trail.Trail.{Trail}
use Rattle.yaml_round_engine.specs.Compare.{Parted}
use Rattle.yaml_round_engine.proofs.compare.same_events.Given as goal

abbrev pub invariant-events : goal.invariant-events
invariant-events l = record {
  first_real : AreReal l.first.parser.events;
  second_real : AreReal l.second.parser.events;
  first : l.first.parser.ending ≡ l.fn.first.parser.ending;
  second : l.second.parser.ending ≡ l.fn.second.parser.ending;
  alike : (contents l.fn.first.parser.events ≡ contents l.fn.second.parser.events) ↔
      (contents l.first.parser.events ≡ contents l.second.parser.events);
  parted : (t : Trail) → Parted l.fn.kept l.first.parser.events l.second.parser.events l.trail t
      → Parted l.fn.kept l.fn.first.parser.events l.fn.second.parser.events l.fn.trail t;
}

abbrev pub decreases-events : goal.decreases-events
decreases-events l = length l.first.parser.events
