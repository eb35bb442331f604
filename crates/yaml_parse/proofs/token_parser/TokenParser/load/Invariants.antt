use Rattle.std.proofs.Common.{length}
use Rattle.yaml_parse_laws_trees.proofs.ByStep.{KeepsLoading}
use Rattle.yaml_parse.proofs.token_parser.TokenParser.load.Given as goal

abbrev pub invariant-events : goal.invariant-events
invariant-events g l = KeepsLoading l.initial.self.remaining l.self.remaining l.loader

abbrev pub decreases-events : goal.decreases-events
decreases-events g l = length l.self.remaining.events
