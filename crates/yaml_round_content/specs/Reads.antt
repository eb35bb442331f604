-- The events that are read of a canonical node.
use Rattle.std.specs.Prelude.{ℕ, Bool, false, not, ◌&&◌, List, [], ◌∷◌, Option, Some, None}
use Rattle.yaml_emit_laws.specs.scan_model.declared.name.yaml_scalar_style_t.TheVariants.{YAML_DOUBLE_QUOTED_SCALAR_STYLE}
use Rattle.yaml_emit_laws.specs.scan_model.declared.name.yaml_sequence_style_t.TheVariants.{YAML_FLOW_SEQUENCE_STYLE}
use Rattle.yaml_emit_laws.specs.scan_model.declared.name.yaml_mapping_style_t.TheVariants.{YAML_FLOW_MAPPING_STYLE}
use Rattle.yaml_parse_model.specs.Events.{EventBody}
use Rattle.yaml_parse_model.specs.Events as event
use Rattle.yaml_emit_laws.specs.parse_grammar.Resolve.{is_missing}
use Rattle.yaml_emit_laws.specs.emit_layout.Nodes.{is_directed}
use Rattle.yaml_emit_laws.specs.emit_layout.Content.{Document, Node, alias_node, scalar_node, sequence_node, mapping_node, Nodes, no_nodes, node, Pairs, no_pairs, pair}

-- an untagged scalar counts as plain where it has `!` before it
abbrev pub scalar_reads : Option (List ℕ) → Option (List ℕ) → List ℕ → Bool → EventBody
scalar_reads anchor None value quoted = event.scalar anchor None value (not quoted) quoted
    YAML_DOUBLE_QUOTED_SCALAR_STYLE
scalar_reads anchor (Some t) value quoted = event.scalar anchor (Some t) value false false
    YAML_DOUBLE_QUOTED_SCALAR_STYLE

unfoldable mutual
  pub node_reads : Node → List EventBody → List EventBody
  node_reads (alias_node name) es = event.alias name ∷ es
  node_reads (scalar_node x) es = scalar_reads x.anchor x.tag x.value x.quoted ∷ es
  node_reads (sequence_node q items) es = event.sequence_start q.anchor q.tag (is_missing q.tag)
      YAML_FLOW_SEQUENCE_STYLE ∷ items_reads items (event.sequence_end ∷ es)
  node_reads (mapping_node q pairs) es = event.mapping_start q.anchor q.tag (is_missing q.tag)
      YAML_FLOW_MAPPING_STYLE ∷ pairs_reads pairs (event.mapping_end ∷ es)

  pub items_reads : Nodes → List EventBody → List EventBody
  items_reads no_nodes es = es
  items_reads (node x xs) es = node_reads x (items_reads xs es)

  pub pairs_reads : Pairs → List EventBody → List EventBody
  pairs_reads no_pairs es = es
  pairs_reads (pair k v ps) es = node_reads k (node_reads v (pairs_reads ps es))

-- ---- documents

abbrev pub begins_directed : List Document → Bool
begins_directed [] = false
begins_directed (d ∷ ds) = is_directed d.opening

-- a document ends implicitly where no `...` is after it
unfoldable pub documents_reads : List Document → List EventBody
documents_reads [] = event.stream_end ∷ []
documents_reads (d ∷ ds) =
    event.document_start d.opening.version d.opening.directives false
    ∷ node_reads d.root (event.document_end (d.implicit_end && not (begins_directed ds))
    ∷ documents_reads ds)
