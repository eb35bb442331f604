use Rattle.std.proofs.Common.{◌≡◌, map, drop}
use Rattle.yaml_parse_model.specs.Events.{directive_of}
use Rattle.yaml_emit_layout.specs.Tags.{directive_for}
use Rattle.yaml_emit_core.proofs.table.walked.Given as goal

abbrev pub invariant-loop-i : goal.invariant-loop-i
invariant-loop-i l = directive_for (map directive_of l.directives) l.tag ≡ directive_for (map directive_of (drop l.i l.directives)) l.tag
