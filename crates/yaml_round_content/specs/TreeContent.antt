-- The content of a tree: each document's version, tag directives and node, its tags in full.
use Rattle.std.specs.Prelude.{ℕ, Bool, true, false, if◌then◌else◌, List, [], ◌∷◌, ◌++◌, Option, Some, None, codes}
use Rattle.std.specs.Str.{bytes_eq}
use Rattle.yaml_parse_model.specs.scan_model.declared.record.yaml_version_directive_t.{yaml_version_directive_t}
use Rattle.yaml_parse_model.specs.scan_model.declared.name.yaml_scalar_style_t.{yaml_scalar_style_t}
use Rattle.yaml_parse_model.specs.scan_model.declared.name.yaml_scalar_style_t.TheVariants.{YAML_PLAIN_SCALAR_STYLE}
use Rattle.yaml_parse_model.specs.Events.{TagDirective}
use Rattle.yaml_parse_model.specs.Nodes.{secondary_prefix}
use Rattle.yaml_emit_laws.specs.parse_grammar.declared.Wants.{Wants}
use Rattle.yaml_emit_laws.specs.parse_grammar.declared.Brackets.TheVariants as brackets
use Rattle.yaml_emit_laws.specs.parse_grammar.Items.{Properties, Tag}
use Rattle.yaml_emit_laws.specs.parse_grammar.Trees.{properties_of}
use Rattle.yaml_emit_laws.specs.parse_grammar.Trees as tree
use Rattle.yaml_round_content.specs.Said.{ScalarMark, untagged, tagged, Node, Nodes, Pairs, Document, no_nodes, node, no_pairs, pair}
use Rattle.yaml_round_content.specs.Said as content

-- ---- tags

-- What a handle stands for: what its document's directive says, else `!!` for YAML's own tags, and `!` for itself.
abbrev pub prefix_of : List TagDirective → List ℕ → List ℕ
prefix_of [] handle = if bytes_eq handle (codes "!!") then secondary_prefix else handle
prefix_of (d ∷ ds) handle = if bytes_eq d.handle handle then d.prefix else prefix_of ds handle

-- the tag in full; a verbatim one has no handle
abbrev pub in_full : List TagDirective → List ℕ → List ℕ → List ℕ
in_full ds [] suffix = suffix
in_full ds (c ∷ handle) suffix = prefix_of ds (c ∷ handle) ++ suffix

abbrev pub full_tag : List TagDirective → Option Tag → Option (List ℕ)
full_tag ds None = None
full_tag ds (Some t) = Some (in_full ds t.handle t.suffix)

abbrev pub tag_of : List TagDirective → Option Properties → Option (List ℕ)
tag_of ds None = None
tag_of ds (Some p) = full_tag ds p.tag

abbrev pub anchor_of : Option Properties → Option (List ℕ)
anchor_of None = None
anchor_of (Some p) = p.anchor

-- ---- nodes

abbrev pub is_plain : yaml_scalar_style_t → Bool
is_plain YAML_PLAIN_SCALAR_STYLE = true
is_plain _ = false

-- an untagged scalar counts as plain or not; with the tag `!` it is untagged and counts as plain
abbrev pub mark_of : Option (List ℕ) → Bool → ScalarMark
mark_of None plain = untagged plain
mark_of (Some t) plain = if bytes_eq t (codes "!") then untagged true else tagged t

-- an empty node
abbrev pub empty : Option (List ℕ) → Option (List ℕ) → Node
empty anchor tag = content.scalar anchor (mark_of tag true) []

-- a node that is left out
abbrev pub nothing : Node
nothing = empty None None

-- Under the directives of its document.
abbrev mutual
  pub node_of : {w : Wants} → List TagDirective → tree.Node w → Node
  node_of ds (tree.alias s name) = content.alias name
  node_of ds (tree.only_properties d) = empty (anchor_of (Some (properties_of d)))
      (tag_of ds (Some (properties_of d)))
  node_of ds (tree.with_properties d c) = with_content ds (Some (properties_of d)) c
  node_of ds (tree.bare c) = with_content ds None c

  pub with_content : {w : Wants} → List TagDirective → Option Properties → tree.Content w → Node
  with_content ds p (tree.scalar s value style) = content.scalar (anchor_of p)
      (mark_of (tag_of ds p) (is_plain style)) value
  with_content ds p (tree.flow brackets.Sequence s items) = content.sequence (anchor_of p)
      (tag_of ds p) (items_of ds items)
  with_content ds p (tree.flow brackets.Mapping s items) = content.mapping (anchor_of p)
      (tag_of ds p) (parts_of ds items)
  with_content ds p (tree.block_sequence s entries) = content.sequence (anchor_of p)
      (tag_of ds p) (entries_of ds entries)
  with_content ds p (tree.block_mapping s pairs) = content.mapping (anchor_of p)
      (tag_of ds p) (pairs_of ds pairs)
  with_content ds p (tree.indentless s n others) = content.sequence (anchor_of p) (tag_of ds p)
      (node (maybe_of ds n) (others_of ds others))

  pub maybe_of : {w : Wants} → List TagDirective → tree.Maybe w → Node
  maybe_of ds tree.left_out = nothing
  maybe_of ds (tree.there n) = node_of ds n

  pub colon_of : {w : Wants} → List TagDirective → tree.Colon w → Node
  colon_of ds tree.no_colon = nothing
  colon_of ds (tree.colon s n) = maybe_of ds n

  -- inside the brackets of a sequence a pair is a mapping of its own
  pub items_of : List TagDirective → tree.Items → Nodes
  items_of ds (tree.end_items s) = no_nodes
  items_of ds (tree.single n more) = node (node_of ds n) (more_items_of ds more)
  items_of ds (tree.pair s key value more) = node
      (content.mapping None None (pair (maybe_of ds key) (colon_of ds value) no_pairs))
      (more_items_of ds more)

  pub more_items_of : List TagDirective → tree.More → Nodes
  more_items_of ds (tree.end_more s) = no_nodes
  more_items_of ds (tree.comma s items) = items_of ds items

  -- inside the brackets of a mapping a lone node is a key, and its value is left out
  pub parts_of : List TagDirective → tree.Items → Pairs
  parts_of ds (tree.end_items s) = no_pairs
  parts_of ds (tree.single n more) = pair (node_of ds n) nothing (more_parts_of ds more)
  parts_of ds (tree.pair s key value more) = pair (maybe_of ds key) (colon_of ds value)
      (more_parts_of ds more)

  pub more_parts_of : List TagDirective → tree.More → Pairs
  more_parts_of ds (tree.end_more s) = no_pairs
  more_parts_of ds (tree.comma s items) = parts_of ds items

  pub entries_of : List TagDirective → tree.Entries → Nodes
  entries_of ds (tree.end_entries s) = no_nodes
  entries_of ds (tree.entry s n entries) = node (maybe_of ds n) (entries_of ds entries)

  pub others_of : List TagDirective → tree.Others → Nodes
  others_of ds tree.no_others = no_nodes
  others_of ds (tree.other s n others) = node (maybe_of ds n) (others_of ds others)

  pub pairs_of : List TagDirective → tree.Pairs → Pairs
  pairs_of ds (tree.end_pairs s) = no_pairs
  pairs_of ds (tree.block_pair s key value pairs) = pair (maybe_of ds key) (colon_of ds value)
      (pairs_of ds pairs)

-- ---- documents

abbrev pub tags_in : List tree.Directive → List TagDirective
tags_in [] = []
tags_in (tree.version s major minor ∷ ds) = tags_in ds
tags_in (tree.handle s name prefix ∷ ds) = record { handle = name; prefix = prefix } ∷ tags_in ds

-- a document in order has one version at most
abbrev pub version_in : List tree.Directive → Option yaml_version_directive_t
version_in [] = None
version_in (tree.version s major minor ∷ ds) = Some (record { major = major; minor = minor })
version_in (tree.handle s name prefix ∷ ds) = version_in ds

abbrev pub documents_of : tree.Documents → List Document
documents_of (tree.end_stream s) = []
documents_of (tree.document ds s root ends more) = record {
  version = version_in ds;
  directives = tags_in ds;
  root = maybe_of (tags_in ds) root;
} ∷ documents_of more

-- the first document may do without `---`
abbrev pub behind_first : tree.First → List Document → List Document
behind_first tree.no_first documents = documents
behind_first (tree.first n ends) documents = record {
  version = None;
  directives = [];
  root = node_of [] n;
} ∷ documents

-- The content of a tree.
abbrev pub tree_content : tree.Stream → List Document
tree_content t = behind_first t.first (documents_of t.documents)
