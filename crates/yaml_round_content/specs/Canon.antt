-- The canonical text of a content.
use Rattle.std.specs.Prelude.{ℕ, true, false, not, List, map, Option, Some, None}
use Rattle.yaml_parse_model.specs.scan_model.declared.name.yaml_encoding_t.TheVariants.{YAML_ANY_ENCODING}
use Rattle.yaml_parse_model.specs.scan_model.declared.name.yaml_scalar_style_t.TheVariants.{YAML_ANY_SCALAR_STYLE}
use Rattle.yaml_emit_laws.specs.emit_layout.declared.Encoding.{Encoding}
use Rattle.yaml_emit_laws.specs.emit_layout.declared.RequestedSettings.{RequestedSettings}
use Rattle.yaml_emit_laws.specs.emit_layout.Settings.{settled, settled_encoding}
use Rattle.yaml_emit_laws.specs.emit_layout.Text.{Item, encode}
use Rattle.yaml_emit_laws.specs.emit_layout.Layout.{written}
use Rattle.yaml_emit_laws.specs.emit_layout.Content as emit
use Rattle.yaml_emit_laws.specs.emit_layout.Nodes.{stream_layout}
use Rattle.yaml_round_content.specs.Said as content
use Rattle.yaml_round_content.specs.Said.{ScalarMark, untagged, tagged, Node, Nodes, Pairs, Document}

-- An untagged scalar may be quoted where it doesn't count as plain; of a tagged one no flag is set.
abbrev pub written_scalar : Option (List ℕ) → ScalarMark → List ℕ → emit.Scalar
written_scalar anchor (untagged plain) value =
    record {
      anchor = anchor;
      tag = None;
      value = value;
      plain = plain;
      quoted = not plain;
      style = YAML_ANY_SCALAR_STYLE;
    }
written_scalar anchor (tagged t) value =
    record {
      anchor = anchor;
      tag = Some t;
      value = value;
      plain = false;
      quoted = false;
      style = YAML_ANY_SCALAR_STYLE;
    }

abbrev pub written_start : Option (List ℕ) → Option (List ℕ) → emit.Start
written_start anchor tag = record { anchor = anchor; tag = tag; implicit = false; flow = false }

-- the node as an emitter takes it
abbrev mutual
  pub written_node : Node → emit.Node
  written_node (content.alias name) = emit.alias_node name
  written_node (content.scalar anchor mark value) = emit.scalar_node
      (written_scalar anchor mark value)
  written_node (content.sequence anchor tag items) = emit.sequence_node
      (written_start anchor tag) (written_nodes items)
  written_node (content.mapping anchor tag pairs) = emit.mapping_node
      (written_start anchor tag) (written_pairs pairs)

  pub written_nodes : Nodes → emit.Nodes
  written_nodes content.no_nodes = emit.no_nodes
  written_nodes (content.node n ns) = emit.node (written_node n) (written_nodes ns)

  pub written_pairs : Pairs → emit.Pairs
  written_pairs content.no_pairs = emit.no_pairs
  written_pairs (content.pair k v ps) = emit.pair (written_node k) (written_node v)
      (written_pairs ps)

abbrev pub written_document : Document → emit.Document
written_document d = record {
  opening = record { version = d.version; directives = d.directives; implicit = true };
  root = written_node d.root;
  implicit_end = true;
}

abbrev pub written_documents : List Document → List emit.Document
written_documents c = map written_document c

-- the layout under settings that set an encoding
abbrev pub canon_items : RequestedSettings → List Document → List Item
canon_items w c = written (stream_layout (settled w YAML_ANY_ENCODING) (written_documents c))

abbrev pub canon_encoding : RequestedSettings → Encoding
canon_encoding w = settled_encoding w.encoding YAML_ANY_ENCODING

-- the text
abbrev pub canonical_layout : RequestedSettings → List Document → List ℕ
canonical_layout w c = encode (canon_encoding w) (canon_items w c)
