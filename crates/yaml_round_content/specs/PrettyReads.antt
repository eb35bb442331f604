-- The events that are read of pretty text.
use Rattle.std.specs.Prelude.{ℕ, Bool, true, false, not, ◌&&◌, ◌||◌, List, [], ◌∷◌, Option, Some, None}
use Rattle.yaml_emit_laws.specs.scan_model.declared.name.yaml_sequence_style_t.{yaml_sequence_style_t}
use Rattle.yaml_emit_laws.specs.scan_model.declared.name.yaml_sequence_style_t.TheVariants.{YAML_BLOCK_SEQUENCE_STYLE, YAML_FLOW_SEQUENCE_STYLE}
use Rattle.yaml_emit_laws.specs.scan_model.declared.name.yaml_mapping_style_t.{yaml_mapping_style_t}
use Rattle.yaml_emit_laws.specs.scan_model.declared.name.yaml_mapping_style_t.TheVariants.{YAML_BLOCK_MAPPING_STYLE, YAML_FLOW_MAPPING_STYLE}
use Rattle.yaml_parse_model.specs.Events.{EventBody}
use Rattle.yaml_parse_model.specs.Events as event
use Rattle.yaml_emit_laws.specs.emit_layout.declared.Settings.{Settings}
use Rattle.yaml_emit_laws.specs.emit_layout.declared.Style.{Style}
use Rattle.yaml_emit_laws.specs.emit_layout.declared.level.Part.{Part}
use Rattle.yaml_emit_laws.specs.emit_layout.declared.level.Part.TheVariants as part
use Rattle.yaml_emit_laws.specs.emit_layout.Content.{Document, Node, alias_node, scalar_node, sequence_node, mapping_node, Nodes, no_nodes, node, Pairs, no_pairs, pair}
use Rattle.yaml_emit_laws.specs.emit_layout.Grammar.{scalar_tag, start_tag}
use Rattle.yaml_emit_laws.specs.emit_layout.Nodes.{Context, is_plain, is_simple, key_part, are_none, are_no_pairs, is_marked}
use Rattle.yaml_emit_laws.specs.parse_grammar.Resolve.{is_missing}
use Rattle.yaml_emit_laws.specs.NodeBodies.{style_at, is_flow_at, style_named, takes_mark, context_in, is_root_kept, has_dots}

abbrev pub sequence_style : Bool → yaml_sequence_style_t
sequence_style true = YAML_FLOW_SEQUENCE_STYLE
sequence_style false = YAML_BLOCK_SEQUENCE_STYLE

abbrev pub mapping_style : Bool → yaml_mapping_style_t
mapping_style true = YAML_FLOW_MAPPING_STYLE
mapping_style false = YAML_BLOCK_MAPPING_STYLE

-- an untagged scalar counts as plain where it is, or has `!` before it
abbrev pub scalar_reads : Option (List ℕ) → Option (List ℕ) → List ℕ → Bool → Style → EventBody
scalar_reads anchor None value marked s = event.scalar anchor None value (marked || is_plain s)
    (not (marked || is_plain s)) (style_named s)
scalar_reads anchor (Some t) value marked s = event.scalar anchor (Some t) value false false
    (style_named s)

unfoldable mutual
  pub node_reads : Context → Bool → Part → Node → List EventBody → List EventBody
  node_reads p flow q (alias_node name) es = event.alias name ∷ es
  node_reads p flow q (scalar_node x) es = scalar_reads x.anchor (scalar_tag false x) x.value
      (takes_mark x.quoted (style_at p flow q x)) (style_at p flow q x) ∷ es
  node_reads p flow q (sequence_node o items) es =
      event.sequence_start o.anchor (start_tag false o) (is_missing (start_tag false o))
      (sequence_style (is_flow_at p flow o (are_none items)))
      ∷ items_reads p (is_flow_at p flow o (are_none items)) items (event.sequence_end ∷ es)
  node_reads p flow q (mapping_node o pairs) es =
      event.mapping_start o.anchor (start_tag false o) (is_missing (start_tag false o))
      (mapping_style (is_flow_at p flow o (are_no_pairs pairs)))
      ∷ pairs_reads p (is_flow_at p flow o (are_no_pairs pairs)) pairs (event.mapping_end ∷ es)

  pub items_reads : Context → Bool → Nodes → List EventBody → List EventBody
  items_reads p flow no_nodes es = es
  items_reads p flow (node x xs) es = node_reads p flow part.Item x (items_reads p flow xs es)

  pub pairs_reads : Context → Bool → Pairs → List EventBody → List EventBody
  pairs_reads p flow no_pairs es = es
  pairs_reads p flow (pair k v ps) es = node_reads p flow (key_part (is_simple p k)) k
      (node_reads p flow part.Value v (pairs_reads p flow ps es))

-- ---- documents

abbrev pub root_reads : Settings → Document → List EventBody → List EventBody
root_reads s d es = node_reads (context_in s d) false part.Item d.root es

-- by whether none went before; a document ends implicitly where no `...` is after it
unfoldable pub documents_reads : Settings → Bool → List Document → List EventBody
documents_reads s first [] = event.stream_end ∷ []
documents_reads s first (d ∷ ds) =
    event.document_start d.opening.version d.opening.directives (not (is_marked s first d.opening))
    ∷ root_reads s d (event.document_end (d.implicit_end && not (has_dots (is_root_kept s d) ds))
    ∷ documents_reads s false ds)

-- the events of a stream of documents, its start aside
abbrev pub stream_reads : Settings → List Document → List EventBody
stream_reads s ds = documents_reads s true ds
