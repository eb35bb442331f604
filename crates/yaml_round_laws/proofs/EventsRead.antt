-- The events that are read of a document shaped as JSON.
use Rattle.std.specs.Prelude.{true, List, [], ◌∷◌, None}
use Rattle.yaml_round_laws.proofs.JsonWords.{YAML_FLOW_SEQUENCE_STYLE, YAML_FLOW_MAPPING_STYLE, EventBody, scalar_event, Document, Node, alias_node, scalar_node, sequence_node, mapping_node, Nodes, no_nodes, node, Pairs}
use Rattle.yaml_round_content.specs.parse_model.Events as event
use Rattle.yaml_emit_layout.specs.Content.{no_pairs, pair}

-- without anchors and tags
unfoldable mutual
  pub json_reads : Node → List EventBody → List EventBody
  json_reads (alias_node name) es = event.alias name ∷ es
  json_reads (scalar_node x) es = scalar_event None None x.value x.style ∷ es
  json_reads (sequence_node q items) es =
      event.sequence_start None None true YAML_FLOW_SEQUENCE_STYLE
      ∷ json_items_reads items (event.sequence_end ∷ es)
  json_reads (mapping_node q pairs) es =
      event.mapping_start None None true YAML_FLOW_MAPPING_STYLE
      ∷ json_pairs_reads pairs (event.mapping_end ∷ es)

  pub json_items_reads : Nodes → List EventBody → List EventBody
  json_items_reads no_nodes es = es
  json_items_reads (node x xs) es = json_reads x (json_items_reads xs es)

  pub json_pairs_reads : Pairs → List EventBody → List EventBody
  json_pairs_reads no_pairs es = es
  json_pairs_reads (pair k v ps) es = json_reads k (json_reads v (json_pairs_reads ps es))

-- the events of a stream of one document without directives, its start aside
abbrev pub document_reads : Document → List EventBody
document_reads d = event.document_start None [] d.opening.implicit
    ∷ json_reads d.root (event.document_end d.implicit_end ∷ event.stream_end ∷ [])
