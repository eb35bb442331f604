-- The tokens that canonical layout writes, without their marks, before those that follow.
use Rattle.std.specs.Prelude.{ℕ, Bool, true, false, not, ◌&&◌, List, [], ◌∷◌, Option, Some, None}
use Rattle.yaml_emit_layout.specs.scan_types.Ascii as ascii
use Rattle.yaml_emit_layout.specs.scan_model.declared.name.yaml_scalar_style_t.TheVariants.{YAML_DOUBLE_QUOTED_SCALAR_STYLE}
use Rattle.yaml_emit_layout.specs.scan_types.Tokens as tokens
use Rattle.yaml_emit_layout.specs.scan_types.Tokens.{TokenBody}
use Rattle.yaml_emit_layout.specs.parse_model.Events.{TagDirective}
use Rattle.yaml_emit_layout.specs.Tags.{Split, shorthand, verbatim, split_tag}
use Rattle.yaml_emit_layout.specs.scan_model.declared.record.yaml_version_directive_t.{yaml_version_directive_t}
use Rattle.yaml_emit_layout.specs.Nodes.{is_directed}
use Rattle.yaml_emit_layout.specs.Content.{Opening, Document, Node, alias_node, scalar_node, sequence_node, mapping_node, Nodes, no_nodes, node, Pairs, no_pairs, pair}
use Rattle.yaml_emit_layout.specs.Grammar.{scalar_tag, start_tag}
use Rattle.yaml_emit_laws.specs.Canonical.{is_marked}

abbrev pub tag_body : Split → TokenBody
tag_body (shorthand handle suffix) = tokens.tag handle suffix
tag_body (verbatim tag) = tokens.tag [] tag

abbrev pub anchor_bodies : Option (List ℕ) → List TokenBody → List TokenBody
anchor_bodies None bs = bs
anchor_bodies (Some name) bs = tokens.anchor name ∷ bs

abbrev pub tag_bodies : List TagDirective → Option (List ℕ) → List TokenBody → List TokenBody
tag_bodies ds None bs = bs
tag_bodies ds (Some t) bs = tag_body (split_tag ds t) ∷ bs

-- the `!` of an untagged scalar that may not be quoted
abbrev pub mark_bodies : Bool → List TokenBody → List TokenBody
mark_bodies true bs = tokens.tag [] (ascii.exclamation ∷ []) ∷ bs
mark_bodies false bs = bs

unfoldable mutual
  pub node_bodies : List TagDirective → Node → List TokenBody → List TokenBody
  node_bodies ds (alias_node name) bs = tokens.alias name ∷ bs
  node_bodies ds (scalar_node x) bs =
      anchor_bodies x.anchor (tag_bodies ds (scalar_tag true x)
      (mark_bodies (is_marked x) (tokens.scalar x.value YAML_DOUBLE_QUOTED_SCALAR_STYLE ∷ bs)))
  node_bodies ds (sequence_node q items) bs =
      anchor_bodies q.anchor (tag_bodies ds (start_tag true q)
      (tokens.flow_sequence_start ∷ items_bodies ds items (tokens.flow_sequence_end ∷ bs)))
  node_bodies ds (mapping_node q pairs) bs =
      anchor_bodies q.anchor (tag_bodies ds (start_tag true q)
      (tokens.flow_mapping_start ∷ pairs_bodies ds pairs (tokens.flow_mapping_end ∷ bs)))

  pub items_bodies : List TagDirective → Nodes → List TokenBody → List TokenBody
  items_bodies ds no_nodes bs = bs
  items_bodies ds (node x xs) bs = node_bodies ds x (tokens.flow_entry ∷ items_bodies ds xs bs)

  pub pairs_bodies : List TagDirective → Pairs → List TokenBody → List TokenBody
  pairs_bodies ds no_pairs bs = bs
  pairs_bodies ds (pair k v ps) bs =
      tokens.key ∷ node_bodies ds k
      (tokens.value ∷ node_bodies ds v (tokens.flow_entry ∷ pairs_bodies ds ps bs))

-- ---- documents

abbrev pub version_bodies : Option yaml_version_directive_t → List TokenBody → List TokenBody
version_bodies None bs = bs
version_bodies (Some v) bs = tokens.version_directive v.major v.minor ∷ bs

unfoldable pub directives_bodies : List TagDirective → List TokenBody → List TokenBody
directives_bodies [] bs = bs
directives_bodies (d ∷ ds) bs = tokens.tag_directive d.handle d.prefix ∷ directives_bodies ds bs

abbrev pub end_bodies : Bool → List TokenBody → List TokenBody
end_bodies true bs = tokens.document_end ∷ bs
end_bodies false bs = bs

abbrev pub opening_bodies : Bool → Opening → List TokenBody → List TokenBody
opening_bodies unended o bs =
    end_bodies (unended && is_directed o)
    (version_bodies o.version (directives_bodies o.directives (tokens.document_start ∷ bs)))

unfoldable pub documents_bodies : Bool → List Document → List TokenBody
documents_bodies unended [] = tokens.stream_end ∷ []
documents_bodies unended (d ∷ ds) =
    opening_bodies unended d.opening (node_bodies d.opening.directives d.root
    (end_bodies (not d.implicit_end) (documents_bodies d.implicit_end ds)))
