-- The lines of the events that were given are there, and those of the others follow.
use Rattle.std.proofs.Common.{◌≡◌, ◌++◌, length}
use Rattle.yaml_round_reading.specs.Reading.{AreReal}
use Rattle.yaml_round_engine.specs.Lines.{event_lines}
use Rattle.yaml_round_engine.proofs.lines.push_lines.Given as goal

abbrev pub invariant-events : goal.invariant-events
invariant-events l = record {
  real : AreReal l.reading.parser.events;
  ending : l.reading.parser.ending ≡ l.fn.reading.parser.ending;
  lines : l.lines.items ++ event_lines l.reading.parser.events ≡ l.fn.lines.items
      ++ event_lines l.fn.reading.parser.events;
}

abbrev pub decreases-events : goal.decreases-events
decreases-events l = length l.reading.parser.events
