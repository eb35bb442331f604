-- The events that were given are said, and the others follow.
use Rattle.std.proofs.Common.{◌≡◌, length}
use Rattle.yaml_round_answers.specs.Listing.{Collected}
use Rattle.yaml_round_answers.proofs.parsing.collect.Given as goal

abbrev pub invariant-events : goal.invariant-events
invariant-events l = record {
  ending : l.reading.parser.ending ≡ l.fn.reading.parser.ending;
  collected : Collected l.fn.reading.parser.events l.reading.parser.events l.listing;
}

abbrev pub decreases-events : goal.decreases-events
decreases-events l = length l.reading.parser.events
