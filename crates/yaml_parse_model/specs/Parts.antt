-- What a clause sees of a document in the making.
use Rattle.std.specs.Prelude.{map}
use Rattle.yaml_parse_model.specs.Events.{directive_of}
use Rattle.yaml_parse_model.specs.Nodes.{node_of}
use Rattle.yaml_parse_model.specs.declared.document.parts.DocumentParts.{DocumentParts}
use Rattle.yaml_parse_model.specs.Documents.{Document}

abbrev pub parts_view : DocumentParts → Document
parts_view d = record {
  version = d.version_directive;
  directives = map directive_of d.tag_directives.items;
  start_implicit = d.start_implicit;
  end_implicit = d.end_implicit;
  start_mark = d.start_mark;
  end_mark = d.end_mark;
  nodes = map node_of d.nodes.items;
}
