use Rattle.std.proofs.Common.{drop, map}
use Rattle.yaml_parse.specs.Events.{directive_of}
use Rattle.yaml_round_answers.proofs.Building.{PutSome}
use Rattle.yaml_round_answers.proofs.event.all_directives.Given as goal

abbrev pub invariant-loop-directive : goal.invariant-loop-directive
invariant-loop-directive l = PutSome l.bytes l.list (map directive_of l.directives.items) (drop l.directive-index l.list)
