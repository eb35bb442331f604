-- That many events more are before the one that is looked for.
use Rattle.std.proofs.Common.{◌≡◌, length}
use Rattle.yaml_round_reading.specs.Reading.{AreReal}
use Rattle.yaml_round_engine.specs.Loaded.{event_at}
use Rattle.yaml_round_engine.proofs.seen.found_at.Given as goal

abbrev pub invariant-events : goal.invariant-events
invariant-events l = record {
  ending : l.reading.parser.ending ≡ l.fn.reading.parser.ending;
  real : AreReal l.reading.parser.events;
  at : event_at l.fn.reading.parser.events l.fn.number ≡ event_at l.reading.parser.events l.left;
}

abbrev pub decreases-events : goal.decreases-events
decreases-events l = length l.reading.parser.events
