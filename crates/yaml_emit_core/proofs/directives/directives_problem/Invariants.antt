use Rattle.std.proofs.Common.{◌≡◌, [], drop, take, map}
use Rattle.yaml_parse_model.specs.Events.{directive_of}
use Rattle.yaml_emit_layout.specs.Grammar.{directives_problem}
use Rattle.yaml_emit_core.specs.Seen.{HasHandles}
use Rattle.yaml_emit_core.proofs.directives.directives_problem.Given as goal

abbrev pub invariant-loop-i : goal.invariant-loop-i
invariant-loop-i l = record {
  seen : HasHandles l.seen (map directive_of (take l.i l.directives));
  right : directives_problem [] (map directive_of l.directives)
      ≡ directives_problem (map directive_of (take l.i l.directives))
      (map directive_of (drop l.i l.directives));
}
