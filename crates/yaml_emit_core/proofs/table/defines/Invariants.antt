use Rattle.std.proofs.Common.{◌≡◌, map, drop}
use Rattle.yaml_parse_model.specs.Events.{directive_of}
use Rattle.yaml_emit_layout.specs.Tags.{defines}
use Rattle.yaml_emit_core.proofs.table.defines.Given as goal

abbrev pub invariant-loop-directive : goal.invariant-loop-directive
invariant-loop-directive l = defines (map directive_of l.directives) l.handle ≡ defines (map directive_of (drop l.directive-index l.directives)) l.handle
