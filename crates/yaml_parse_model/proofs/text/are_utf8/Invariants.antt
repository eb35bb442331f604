use Rattle.std.proofs.Common.{◌↔◌, map, drop}
use Rattle.yaml_parse_model.specs.Events.{directive_of}
use Rattle.yaml_parse_model.specs.Constructors.{AreUtf8}
use Rattle.yaml_parse_model.proofs.text.are_utf8.Given as goal

-- the directives read so far are UTF-8
abbrev pub invariant-loop-directive : goal.invariant-loop-directive
invariant-loop-directive l = AreUtf8 (map directive_of (drop l.directive-index l.directives)) ↔ AreUtf8 (map directive_of l.directives)
