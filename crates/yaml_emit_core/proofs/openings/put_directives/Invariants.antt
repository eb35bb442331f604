use Rattle.std.proofs.Common.{drop, map}
use Rattle.yaml_parse_model.specs.Events.{directive_of}
use Rattle.yaml_emit_output.specs.Draft.{Lays}
use Rattle.yaml_emit_layout.specs.Nodes.{directives_text}
use Rattle.yaml_emit_core.proofs.openings.put_directives.Given as goal

abbrev pub invariant-loop-directive : goal.invariant-loop-directive
invariant-loop-directive l = Lays l.fn.draft l.draft (directives_text l.settings (map directive_of l.directives)) (directives_text l.settings (map directive_of (drop l.directive-index l.directives)))
