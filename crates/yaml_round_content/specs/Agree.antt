-- Documents that agree: the data is the same. Styles, marks and flags are no part of it.
use Rattle.std.specs.Prelude.{◌≡◌, ◌↔◌, ℕ, List, map, Option, None}
use Rattle.yaml_parse_model.specs.scan_model.declared.record.yaml_version_directive_t.{yaml_version_directive_t}
use Rattle.yaml_parse_model.specs.scan_model.declared.name.yaml_scalar_style_t.TheVariants.{YAML_ANY_SCALAR_STYLE}
use Rattle.yaml_parse_model.specs.scan_model.declared.name.yaml_sequence_style_t.TheVariants.{YAML_ANY_SEQUENCE_STYLE}
use Rattle.yaml_parse_model.specs.scan_model.declared.name.yaml_mapping_style_t.TheVariants.{YAML_ANY_MAPPING_STYLE}
use Rattle.yaml_parse_model.specs.Events.{TagDirective}
use Rattle.yaml_parse_model.specs.Nodes.{Node, NodeBody}
use Rattle.yaml_parse_model.specs.Nodes as node
use Rattle.yaml_parse_model.specs.Documents.{Document}
use Rattle.yaml_round_content.specs.Loads.{Loads}

-- a node without style and marks
pub record CoreNode : Type 0 where
  pub tag : List ℕ
  pub body : NodeBody

-- a document's version, directives and nodes
pub record Core : Type 0 where
  pub version : Option yaml_version_directive_t
  pub directives : List TagDirective
  pub nodes : List CoreNode

-- the style is the one that means any
abbrev pub core_body : NodeBody → NodeBody
core_body node.no = node.no
core_body (node.scalar value style) = node.scalar value YAML_ANY_SCALAR_STYLE
core_body (node.sequence items style) = node.sequence items YAML_ANY_SEQUENCE_STYLE
core_body (node.mapping pairs style) = node.mapping pairs YAML_ANY_MAPPING_STYLE

abbrev pub core_node : Node → CoreNode
core_node n = record { tag = n.tag; body = core_body n.body }

abbrev pub core_of : Document → Core
core_of d = record {
  version = d.version;
  directives = d.directives;
  nodes = map core_node d.nodes;
}

-- the documents agree, one after another
abbrev pub Agrees : List Document → List Document → Type 0
Agrees ds es = map core_of ds ≡ map core_of es

-- the documents that were loaded agree, and both loads end in a fault or neither does
pub record LoadAlike (a b : Loads) : Type 0 where
  pub agree : Agrees a.documents b.documents
  pub both : (a.fault ≡ None) ↔ (b.fault ≡ None)
