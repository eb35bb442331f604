-- The normal form that people read: a content's documents with styles that the content alone decides.
use Rattle.std.specs.Prelude.{ℕ, ◌==◌, Bool, true, false, not, ◌&&◌, if◌then◌else◌, List, [], ◌∷◌, Option, Some, None}
use Rattle.yaml_parse_model.specs.scan_types.Ascii as ascii
use Rattle.yaml_parse_model.specs.scan_model.declared.name.yaml_encoding_t.TheVariants.{YAML_ANY_ENCODING}
use Rattle.yaml_parse_model.specs.scan_model.declared.name.yaml_scalar_style_t.{yaml_scalar_style_t}
use Rattle.yaml_parse_model.specs.scan_model.declared.name.yaml_scalar_style_t.TheVariants.{YAML_PLAIN_SCALAR_STYLE, YAML_SINGLE_QUOTED_SCALAR_STYLE, YAML_LITERAL_SCALAR_STYLE}
use Rattle.yaml_emit_laws.specs.emit_layout.declared.RequestedSettings.{RequestedSettings}
use Rattle.yaml_emit_laws.specs.emit_layout.Settings.{settled}
use Rattle.yaml_emit_laws.specs.emit_layout.Text.{Item, encode}
use Rattle.yaml_emit_laws.specs.emit_layout.Layout.{written}
use Rattle.yaml_emit_laws.specs.emit_layout.Style.{last_or}
use Rattle.yaml_emit_laws.specs.emit_layout.Content as emit
use Rattle.yaml_emit_laws.specs.emit_layout.Grammar.{has}
use Rattle.yaml_parse_model.specs.scan_types.Classes.{has_break}
use Rattle.yaml_emit_laws.specs.emit_layout.Nodes.{has_version, has_directives, stream_layout}
use Rattle.yaml_round_content.specs.Said as content
use Rattle.yaml_round_content.specs.Said.{ScalarMark, untagged, tagged, Node, Nodes, Pairs, Document}
use Rattle.yaml_round_content.specs.Canon.{canon_encoding}

-- an empty value without anchor
abbrev pub is_nothing : Option (List ℕ) → List ℕ → Bool
is_nothing anchor [] = not (has anchor)
is_nothing anchor (b ∷ bs) = false

-- it has a line break, and doesn't end in a space, which no block scalar may
abbrev pub may_be_literal : List ℕ → Bool
may_be_literal value = has_break value && not (last_or 0 value == ascii.space)

-- literal, or else single quoted; the layout falls back to double quotes by its own rules
abbrev pub quoted_style : List ℕ → yaml_scalar_style_t
quoted_style value = if may_be_literal value then YAML_LITERAL_SCALAR_STYLE
    else YAML_SINGLE_QUOTED_SCALAR_STYLE

-- By whether nothing but it would begin the text: what counts as plain is plain, except what would be nothing there. A tagged scalar
-- is plain in one line.
abbrev pub readable_style : Bool → Option (List ℕ) → ScalarMark → List ℕ → yaml_scalar_style_t
readable_style starts anchor (untagged true) value =
    if starts && is_nothing anchor value then YAML_SINGLE_QUOTED_SCALAR_STYLE
    else YAML_PLAIN_SCALAR_STYLE
readable_style starts anchor (untagged false) value = quoted_style value
readable_style starts anchor (tagged t) value =
    if has_break value then quoted_style value else YAML_PLAIN_SCALAR_STYLE

-- its flags are as a reader gives them
abbrev pub readable_scalar : Bool → Option (List ℕ) → ScalarMark → List ℕ → emit.Scalar
readable_scalar starts anchor (untagged plain) value =
    record {
      anchor = anchor;
      tag = None;
      value = value;
      plain = plain;
      quoted = not plain;
      style = readable_style starts anchor (untagged plain) value;
    }
readable_scalar starts anchor (tagged t) value =
    record {
      anchor = anchor;
      tag = Some t;
      value = value;
      plain = false;
      quoted = false;
      style = readable_style starts anchor (tagged t) value;
    }

-- a collection in block style
abbrev pub readable_start : Option (List ℕ) → Option (List ℕ) → emit.Start
readable_start anchor tag = record {
  anchor = anchor;
  tag = tag;
  implicit = not (has tag);
  flow = false;
}

-- by whether it would begin the text
abbrev mutual
  pub readable_node : Bool → Node → emit.Node
  readable_node starts (content.alias name) = emit.alias_node name
  readable_node starts (content.scalar anchor mark value) = emit.scalar_node
      (readable_scalar starts anchor mark value)
  readable_node starts (content.sequence anchor tag items) = emit.sequence_node
      (readable_start anchor tag) (readable_nodes items)
  readable_node starts (content.mapping anchor tag pairs) = emit.mapping_node
      (readable_start anchor tag) (readable_pairs pairs)

  pub readable_nodes : Nodes → emit.Nodes
  readable_nodes content.no_nodes = emit.no_nodes
  readable_nodes (content.node n ns) = emit.node (readable_node false n) (readable_nodes ns)

  pub readable_pairs : Pairs → emit.Pairs
  readable_pairs content.no_pairs = emit.no_pairs
  readable_pairs (content.pair k v ps) = emit.pair (readable_node false k)
      (readable_node false v) (readable_pairs ps)

-- it needs no `---`: it is the first, and has no directives
abbrev pub is_unmarked : Bool → Document → Bool
is_unmarked first d = first && (not (has_version d.version) && not (has_directives d.directives))

abbrev pub readable_document : Bool → Document → emit.Document
readable_document first d = record {
  opening = record {
    version = d.version;
    directives = d.directives;
    implicit = is_unmarked first d;
  };
  root = readable_node (is_unmarked first d) d.root;
  implicit_end = true;
}

-- by whether none went before
abbrev pub documents_from : Bool → List Document → List emit.Document
documents_from first [] = []
documents_from first (d ∷ ds) = readable_document first d ∷ documents_from false ds

abbrev pub readable_documents : List Document → List emit.Document
readable_documents c = documents_from true c

-- the layout under settings that set an encoding
abbrev pub readable_items : RequestedSettings → List Document → List Item
readable_items w c = written (stream_layout (settled w YAML_ANY_ENCODING) (readable_documents c))

-- the text
abbrev pub readable : RequestedSettings → List Document → List ℕ
readable w c = encode (canon_encoding w) (readable_items w c)
