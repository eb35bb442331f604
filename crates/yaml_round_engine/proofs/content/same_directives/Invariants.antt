-- The fronts are the same.
use Rattle.std.proofs.Common.{◌≡◌, map, take}
use Rattle.yaml_parse.specs.Events.{directive_of}
use Rattle.yaml_round_engine.proofs.content.same_directives.Given as goal

abbrev pub invariant-loop-i : goal.invariant-loop-i
invariant-loop-i l = map directive_of (take l.i l.a) ≡ map directive_of (take l.i l.b)
