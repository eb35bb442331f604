-- The kinds of lexemes that canonical layout writes, put before those before it: the newest first.
use Rattle.std.specs.Prelude.{ℕ, Bool, true, false, not, ◌&&◌, List, [], ◌∷◌, Option, Some, None}
use Rattle.yaml_scan_history.specs.declared.kind.Kind.{Kind}
use Rattle.yaml_scan_history.specs.declared.kind.Kind.TheVariants as kinds
use Rattle.yaml_emit_layout.specs.scan_model.declared.record.yaml_version_directive_t.{yaml_version_directive_t}
use Rattle.yaml_emit_layout.specs.parse_model.Events.{TagDirective}
use Rattle.yaml_emit_layout.specs.Content.{Scalar, Node, alias_node, scalar_node, sequence_node, mapping_node, Nodes, no_nodes, node, Pairs, no_pairs, pair, Opening, Document}
use Rattle.yaml_emit_layout.specs.Grammar.{has, scalar_tag, start_tag}
use Rattle.yaml_emit_layout.specs.Nodes.{is_directed}

abbrev pub put_if : Bool → Kind → List Kind → List Kind
put_if true k ks = k ∷ ks
put_if false k ks = ks

-- an anchor and a tag
abbrev pub properties_kinds : Option (List ℕ) → Option (List ℕ) → List Kind → List Kind
properties_kinds anchor tag ks = put_if (has tag) kinds.Tag (put_if (has anchor) kinds.Anchor ks)

-- the `!` of an untagged scalar that may not be quoted
abbrev pub is_marked : Scalar → Bool
is_marked x = not (has (scalar_tag true x)) && not x.quoted

-- A comma is after each item and each value, and `?` before each key.
unfoldable mutual
  pub node_kinds : Node → List Kind → List Kind
  node_kinds (alias_node name) ks = kinds.Alias ∷ ks
  node_kinds (scalar_node x) ks = kinds.DoubleQuoted ∷ put_if (is_marked x) kinds.Tag
      (properties_kinds x.anchor (scalar_tag true x) ks)
  node_kinds (sequence_node q items) ks = kinds.FlowSequenceEnd ∷ items_kinds items
      (kinds.FlowSequenceStart ∷ properties_kinds q.anchor (start_tag true q) ks)
  node_kinds (mapping_node q pairs) ks = kinds.FlowMappingEnd ∷ pairs_kinds pairs
      (kinds.FlowMappingStart ∷ properties_kinds q.anchor (start_tag true q) ks)

  pub items_kinds : Nodes → List Kind → List Kind
  items_kinds no_nodes ks = ks
  items_kinds (node x xs) ks = items_kinds xs (kinds.FlowEntry ∷ node_kinds x ks)

  pub pairs_kinds : Pairs → List Kind → List Kind
  pairs_kinds no_pairs ks = ks
  pairs_kinds (pair k v ps) ks = pairs_kinds ps
      (kinds.FlowEntry ∷ node_kinds v (kinds.ValueMark ∷ node_kinds k (kinds.KeyMark ∷ ks)))

abbrev pub version_kinds : Option yaml_version_directive_t → List Kind → List Kind
version_kinds None ks = ks
version_kinds (Some v) ks = kinds.Directive ∷ ks

unfoldable pub directives_kinds : List TagDirective → List Kind → List Kind
directives_kinds [] ks = ks
directives_kinds (d ∷ ds) ks = directives_kinds ds (kinds.Directive ∷ ks)

-- `...` separates directives from a document that ended implicitly; each document has its `---`
abbrev pub opening_kinds : Bool → Opening → List Kind → List Kind
opening_kinds unended o ks = kinds.DocumentStart ∷ directives_kinds o.directives
    (version_kinds o.version (put_if (unended && is_directed o) kinds.DocumentEnd ks))

unfoldable pub documents_kinds : Bool → List Document → List Kind → List Kind
documents_kinds unended [] ks = ks
documents_kinds unended (d ∷ ds) ks =
    documents_kinds d.implicit_end ds (put_if (not d.implicit_end) kinds.DocumentEnd
    (node_kinds d.root (opening_kinds unended d.opening ks)))

-- the kinds of a stream of documents, the stream's start aside
abbrev pub stream_kinds : List Document → List Kind
stream_kinds ds = kinds.StreamEnd ∷ documents_kinds false ds []
