use Rattle.std.proofs.Common.{◌≡◌, ◌++◌, drop, map}
use Rattle.yaml_parse_model.specs.Events.{directive_of}
use Rattle.yaml_emit_core.specs.Prefixes.{entry_of, numbered}
use Rattle.yaml_emit_core.proofs.prefixes.numbered.Given as goal

abbrev pub invariant-loop-i : goal.invariant-loop-i
invariant-loop-i l = map entry_of l.entries.items ++ numbered l.i (map directive_of (drop l.i l.directives)) ≡ numbered 0 (map directive_of l.directives)
