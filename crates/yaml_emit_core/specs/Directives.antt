-- What opens a document, as the layouts' definitions say it.
use Rattle.std.specs.Prelude.{map}
use Rattle.yaml_parse_model.specs.Events.{directive_of}
use Rattle.yaml_emit_layout.specs.Content as said
use Rattle.yaml_emit_core.specs.declared.openings.Opening.{Opening}

abbrev pub opening_of : Opening → said.Opening
opening_of o = record {
  version = o.version;
  directives = map directive_of o.directives.now;
  implicit = o.implicit;
}
