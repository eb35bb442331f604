-- The fault that ends the reading stays to come.
use Rattle.std.proofs.Common.{◌≡◌, length}
use Rattle.yaml_round_reading.specs.Reading.{AreReal}
use Rattle.yaml_round_reading.proofs.reading.read_out.Given as goal

abbrev pub invariant-events : goal.invariant-events
invariant-events l = record {
  ending : l.reading.parser.ending ≡ l.fn.reading.parser.ending;
  real : AreReal l.reading.parser.events;
}

abbrev pub decreases-events : goal.decreases-events
decreases-events l = length l.reading.parser.events
