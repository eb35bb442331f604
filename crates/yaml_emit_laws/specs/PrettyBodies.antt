-- The tokens that pretty layout writes for nodes shaped as JSON, without their marks, before those
-- that follow.
use Rattle.std.specs.Prelude.{Bool, true, false, List, [], ◌∷◌}
use Rattle.yaml_emit_layout.specs.scan_types.Tokens as tokens
use Rattle.yaml_emit_layout.specs.scan_types.Tokens.{TokenBody}
use Rattle.yaml_emit_layout.specs.Content.{Document, Node, alias_node, scalar_node, sequence_node, mapping_node, Nodes, no_nodes, node, Pairs, no_pairs, pair}

-- a comma is before all but the first
abbrev pub comma_bodies : Bool → List TokenBody → List TokenBody
comma_bodies true bs = bs
comma_bodies false bs = tokens.flow_entry ∷ bs

unfoldable mutual
  pub json_bodies : Node → List TokenBody → List TokenBody
  json_bodies (alias_node name) bs = tokens.alias name ∷ bs
  json_bodies (scalar_node x) bs = tokens.scalar x.value x.style ∷ bs
  json_bodies (sequence_node q items) bs =
      tokens.flow_sequence_start ∷ json_items true items (tokens.flow_sequence_end ∷ bs)
  json_bodies (mapping_node q pairs) bs =
      tokens.flow_mapping_start ∷ json_pairs true pairs (tokens.flow_mapping_end ∷ bs)

  pub json_items : Bool → Nodes → List TokenBody → List TokenBody
  json_items fresh no_nodes bs = bs
  json_items fresh (node x xs) bs = comma_bodies fresh (json_bodies x (json_items false xs bs))

  pub json_pairs : Bool → Pairs → List TokenBody → List TokenBody
  json_pairs fresh no_pairs bs = bs
  json_pairs fresh (pair k v ps) bs =
      comma_bodies fresh (tokens.key ∷ json_bodies k
      (tokens.value ∷ json_bodies v (json_pairs false ps bs)))

-- ---- documents

-- an explicit document begins with `---`
abbrev pub start_bodies : Bool → List TokenBody → List TokenBody
start_bodies true bs = bs
start_bodies false bs = tokens.document_start ∷ bs

-- and an explicit end is `...`
abbrev pub stop_bodies : Bool → List TokenBody → List TokenBody
stop_bodies true bs = bs
stop_bodies false bs = tokens.document_end ∷ bs

-- the tokens of a stream of one document, its start aside
abbrev pub document_bodies : Document → List TokenBody
document_bodies d = start_bodies d.opening.implicit
    (json_bodies d.root (stop_bodies d.implicit_end (tokens.stream_end ∷ [])))
