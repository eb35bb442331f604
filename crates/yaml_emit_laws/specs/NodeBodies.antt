-- The tokens of pretty text by structure alone, without their marks, before those that follow.
use Rattle.std.specs.Prelude.{ℕ, Bool, true, false, not, ◌&&◌, List, [], ◌∷◌, Option, None}
use Rattle.std.specs.Str.{chars}
use Rattle.yaml_emit_layout.specs.scan_model.declared.name.yaml_scalar_style_t.{yaml_scalar_style_t}
use Rattle.yaml_emit_layout.specs.scan_model.declared.name.yaml_scalar_style_t.TheVariants.{YAML_PLAIN_SCALAR_STYLE, YAML_SINGLE_QUOTED_SCALAR_STYLE, YAML_DOUBLE_QUOTED_SCALAR_STYLE, YAML_LITERAL_SCALAR_STYLE, YAML_FOLDED_SCALAR_STYLE}
use Rattle.yaml_emit_layout.specs.scan_types.Tokens as tokens
use Rattle.yaml_emit_layout.specs.scan_types.Tokens.{TokenBody}
use Rattle.yaml_emit_layout.specs.declared.Settings.{Settings}
use Rattle.yaml_emit_layout.specs.declared.Style.{Style}
use Rattle.yaml_emit_layout.specs.declared.Style.TheVariants as style
use Rattle.yaml_emit_layout.specs.declared.Chomp.{Chomp}
use Rattle.yaml_emit_layout.specs.declared.Chomp.TheVariants as chomping
use Rattle.yaml_emit_layout.specs.Scalars.{chomp}
use Rattle.yaml_emit_layout.specs.declared.level.Part.{Part}
use Rattle.yaml_emit_layout.specs.declared.level.Part.TheVariants as part
use Rattle.yaml_emit_layout.specs.declared.level.NodePosition.{NodePosition}
use Rattle.yaml_emit_layout.specs.Content.{Scalar, Start, Opening, Document, Node, alias_node, scalar_node, sequence_node, mapping_node, Nodes, no_nodes, node, Pairs, no_pairs, pair}
use Rattle.yaml_emit_layout.specs.Grammar.{has, scalar_tag, start_tag}
use Rattle.yaml_emit_layout.specs.Nodes.{Context, context_of, style_of, is_plain, is_flow, is_simple, is_of_mapping, key_part, are_none, are_no_pairs, is_directed, is_marked}
use Rattle.yaml_emit_laws.specs.Bodies.{anchor_bodies, tag_bodies, mark_bodies, version_bodies, directives_bodies, end_bodies}
use Rattle.yaml_emit_laws.specs.PrettyBodies.{comma_bodies, start_bodies}

-- ---- what the layout decides, by whether a node is in brackets, and its part there

-- a position, its surroundings' indentation aside: no decision looks at it
abbrev pub place : Bool → Part → NodePosition
place flow q = record { around = None; flow = flow; part = q }

abbrev pub style_at : Context → Bool → Part → Scalar → Style
style_at p flow q x = style_of p (place flow q) x

abbrev pub is_flow_at : Context → Bool → Start → Bool → Bool
is_flow_at p flow o empty = is_flow p.settings (place flow part.Item) o empty

abbrev pub style_named : Style → yaml_scalar_style_t
style_named style.Plain = YAML_PLAIN_SCALAR_STYLE
style_named style.Single = YAML_SINGLE_QUOTED_SCALAR_STYLE
style_named style.Double = YAML_DOUBLE_QUOTED_SCALAR_STYLE
style_named style.Literal = YAML_LITERAL_SCALAR_STYLE
style_named style.Folded = YAML_FOLDED_SCALAR_STYLE

-- an untagged scalar has `!` before it where it may not be quoted and isn't plain
abbrev pub takes_mark : Bool → Style → Bool
takes_mark quoted s = not quoted && not (is_plain s)

-- neither anchor nor written tag
abbrev pub is_bare : Option (List ℕ) → Option (List ℕ) → Bool
is_bare anchor tag = not (has anchor) && not (has tag)

-- A block sequence that is a key or a value keeps the indentation round it, where its line isn't bare. A line is bare after `-`, after
-- `?` and after the `:` of such a key, up to the properties.
abbrev pub keeps : Part → Bool → Start → Bool
keeps q bare o = is_of_mapping q && not (bare && is_bare o.anchor (start_tag false o))

abbrev pub is_empty : List ℕ → Bool
is_empty [] = true
is_empty (c ∷ cs) = false

-- outside of brackets an empty plain scalar is no word
abbrev pub is_nothing : Bool → Style → List ℕ → Bool
is_nothing flow s value = not flow && (is_plain s && is_empty value)

-- ---- nodes

abbrev pub value_bodies : Bool → Style → List ℕ → List TokenBody → List TokenBody
value_bodies true s value bs = bs
value_bodies false s value bs = tokens.scalar value (style_named s) ∷ bs

abbrev pub scalar_bodies : Bool → Style → List ℕ → List TokenBody → List TokenBody
scalar_bodies flow s value bs = value_bodies (is_nothing flow s value) s value bs

-- by whether it is flow, and keeps the indentation round it
abbrev pub sequence_opens : Bool → Bool → List TokenBody → List TokenBody
sequence_opens true loose bs = tokens.flow_sequence_start ∷ bs
sequence_opens false true bs = bs
sequence_opens false false bs = tokens.block_sequence_start ∷ bs

abbrev pub sequence_closes : Bool → Bool → List TokenBody → List TokenBody
sequence_closes true loose bs = tokens.flow_sequence_end ∷ bs
sequence_closes false true bs = bs
sequence_closes false false bs = tokens.block_end ∷ bs

abbrev pub mapping_opens : Bool → List TokenBody → List TokenBody
mapping_opens true bs = tokens.flow_mapping_start ∷ bs
mapping_opens false bs = tokens.block_mapping_start ∷ bs

abbrev pub mapping_closes : Bool → List TokenBody → List TokenBody
mapping_closes true bs = tokens.flow_mapping_end ∷ bs
mapping_closes false bs = tokens.block_end ∷ bs

-- before an item, by whether none has come
abbrev pub item_bodies : Bool → Bool → List TokenBody → List TokenBody
item_bodies true fresh bs = comma_bodies fresh bs
item_bodies false fresh bs = tokens.block_entry ∷ bs

-- before a pair
abbrev pub pair_bodies : Bool → Bool → List TokenBody → List TokenBody
pair_bodies true fresh bs = comma_bodies fresh (tokens.key ∷ bs)
pair_bodies false fresh bs = tokens.key ∷ bs

-- By whether it is in brackets, its part there, and whether its line is bare. Simple keys and those after `?` have the same tokens.
unfoldable mutual
  pub node_bodies : Context → Bool → Part → Bool → Node → List TokenBody → List TokenBody
  node_bodies p flow q bare (alias_node name) bs = tokens.alias name ∷ bs
  node_bodies p flow q bare (scalar_node x) bs =
      anchor_bodies x.anchor (tag_bodies p.directives (scalar_tag false x)
      (mark_bodies (not (has (scalar_tag false x)) && takes_mark x.quoted (style_at p flow q x))
      (scalar_bodies flow (style_at p flow q x) x.value bs)))
  node_bodies p flow q bare (sequence_node o items) bs =
      anchor_bodies o.anchor (tag_bodies p.directives (start_tag false o)
      (sequence_opens (is_flow_at p flow o (are_none items)) (keeps q bare o)
      (items_bodies p (is_flow_at p flow o (are_none items)) true items
      (sequence_closes (is_flow_at p flow o (are_none items)) (keeps q bare o) bs))))
  node_bodies p flow q bare (mapping_node o pairs) bs =
      anchor_bodies o.anchor (tag_bodies p.directives (start_tag false o)
      (mapping_opens (is_flow_at p flow o (are_no_pairs pairs))
      (pairs_bodies p (is_flow_at p flow o (are_no_pairs pairs)) true pairs
      (mapping_closes (is_flow_at p flow o (are_no_pairs pairs)) bs))))

  pub items_bodies : Context → Bool → Bool → Nodes → List TokenBody → List TokenBody
  items_bodies p flow fresh no_nodes bs = bs
  items_bodies p flow fresh (node x xs) bs = item_bodies flow fresh
      (node_bodies p flow part.Item true x (items_bodies p flow false xs bs))

  pub pairs_bodies : Context → Bool → Bool → Pairs → List TokenBody → List TokenBody
  pairs_bodies p flow fresh no_pairs bs = bs
  pairs_bodies p flow fresh (pair k v ps) bs =
      pair_bodies flow fresh (node_bodies p flow (key_part (is_simple p k)) (not (is_simple p k)) k
      (tokens.value ∷ node_bodies p flow part.Value (not (is_simple p k)) v
      (pairs_bodies p flow false ps bs)))

-- nothing is written for it
abbrev pub is_left_out : Context → Bool → Part → Node → Bool
is_left_out p flow q (scalar_node x) = is_nothing flow (style_at p flow q x) x.value
    && is_bare x.anchor (scalar_tag false x)
is_left_out p flow q (alias_node name) = false
is_left_out p flow q (sequence_node o items) = false
is_left_out p flow q (mapping_node o pairs) = false

-- ---- whether the last block scalar keeps the breaks at its end

abbrev pub is_keep : Chomp → Bool
is_keep chomping.Keep = true
is_keep chomping.Clip = false
is_keep chomping.Strip = false

-- by what it was before
abbrev pub scalar_kept : Style → List ℕ → Bool → Bool
scalar_kept style.Plain value kept = kept
scalar_kept style.Single value kept = kept
scalar_kept style.Double value kept = kept
scalar_kept style.Literal value kept = is_keep (chomp true true (chars value))
scalar_kept style.Folded value kept = is_keep (chomp true true (chars value))

unfoldable mutual
  pub node_kept : Context → Bool → Part → Node → Bool → Bool
  node_kept p flow q (alias_node name) kept = kept
  node_kept p flow q (scalar_node x) kept = scalar_kept (style_at p flow q x) x.value kept
  node_kept p flow q (sequence_node o items) kept = items_kept p
      (is_flow_at p flow o (are_none items)) items kept
  node_kept p flow q (mapping_node o pairs) kept = pairs_kept p
      (is_flow_at p flow o (are_no_pairs pairs)) pairs kept

  pub items_kept : Context → Bool → Nodes → Bool → Bool
  items_kept p flow no_nodes kept = kept
  items_kept p flow (node x xs) kept = items_kept p flow xs (node_kept p flow part.Item x kept)

  pub pairs_kept : Context → Bool → Pairs → Bool → Bool
  pairs_kept p flow no_pairs kept = kept
  pairs_kept p flow (pair k v ps) kept = pairs_kept p flow ps
      (node_kept p flow part.Value v (node_kept p flow (key_part (is_simple p k)) k kept))

-- ---- documents

abbrev pub context_in : Settings → Document → Context
context_in s d = context_of s d.opening.directives

abbrev pub root_bodies : Settings → Document → List TokenBody → List TokenBody
root_bodies s d bs = node_bodies (context_in s d) false part.Item true d.root bs

abbrev pub is_root_kept : Settings → Document → Bool
is_root_kept s d = node_kept (context_in s d) false part.Item d.root false

-- after a document that ended implicitly a `...` comes before directives, and at the stream's end where the last block scalar keeps
abbrev pub has_dots : Bool → List Document → Bool
has_dots kept [] = kept
has_dots kept (d ∷ ds) = is_directed d.opening

abbrev pub opening_bodies : Settings → Bool → Opening → List TokenBody → List TokenBody
opening_bodies s first o bs = version_bodies o.version
    (directives_bodies o.directives (start_bodies (not (is_marked s first o)) bs))

-- by whether none went before, and whether the last ended implicitly and keeps
unfoldable pub documents_bodies : Settings → Bool → Bool → Bool → List Document → List TokenBody
documents_bodies s first unended kept [] = end_bodies (unended && kept) (tokens.stream_end ∷ [])
documents_bodies s first unended kept (d ∷ ds) =
    end_bodies (unended && is_directed d.opening) (opening_bodies s first d.opening
    (root_bodies s d (end_bodies (not d.implicit_end)
    (documents_bodies s false d.implicit_end (is_root_kept s d) ds))))

-- the tokens of a stream of documents, its start aside
abbrev pub stream_bodies : Settings → List Document → List TokenBody
stream_bodies s ds = documents_bodies s true false false ds

-- the first document has no `---`, and nothing is written for its root
abbrev pub starts_with_nothing : Settings → List Document → Bool
starts_with_nothing s [] = false
starts_with_nothing s (d ∷ ds) = not (is_marked s true d.opening)
    && is_left_out (context_in s d) false part.Item d.root
