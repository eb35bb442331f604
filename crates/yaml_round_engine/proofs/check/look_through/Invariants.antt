-- What is to come ends in the fault that all events end in.
use Rattle.std.proofs.Common.{length}
use Rattle.yaml_round_content.specs.Loads.{load_all}
use Rattle.yaml_parse.specs.Loading.{nothing_loaded}
use Rattle.yaml_round_engine.specs.Checking.{LoadsOn}
use Rattle.yaml_round_engine.proofs.check.look_through.Given as goal

abbrev pub invariant-events : goal.invariant-events
invariant-events l = LoadsOn l.known l.reading.parser (load_all l.fn.reading.parser.events l.fn.reading.parser.ending nothing_loaded).fault

abbrev pub decreases-events : goal.decreases-events
decreases-events l = length l.reading.parser.events
