-- What was given is a front, and what is left is to come.
use Rattle.std.proofs.Common.{◌≡◌, length}
use Rattle.yaml_round_reading.specs.Reading.{AreReal}
use Rattle.yaml_round_engine.specs.Writing.{LeadsOn}
use Rattle.yaml_round_engine.proofs.text.write_events.Given as goal

abbrev pub invariant-events : goal.invariant-events
invariant-events l = record {
  ending : l.reading.parser.ending ≡ l.fn.reading.parser.ending;
  real : AreReal l.reading.parser.events;
  leads : LeadsOn l.fn.form l.fn.emitter l.fn.reading.parser.events l.form l.emitter
      l.reading.parser.events;
}

abbrev pub decreases-events : goal.decreases-events
decreases-events l = length l.reading.parser.events
