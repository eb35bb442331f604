-- The documents of a tree with their marks, styles and flags, as a loader is given them, and what they load.
use Rattle.std.specs.Prelude.{ℕ, Bool, true, false, not, if◌then◌else◌, List, [], ◌∷◌, Option, Some, None, Result, Ok, Err, codes}
use Rattle.std.specs.Str.{bytes_eq}
use Rattle.yaml_parse_model.specs.scan_model.declared.record.yaml_mark_t.{yaml_mark_t}
use Rattle.yaml_parse_model.specs.scan_model.declared.name.yaml_scalar_style_t.{yaml_scalar_style_t}
use Rattle.yaml_parse_model.specs.scan_model.declared.name.yaml_scalar_style_t.TheVariants.{YAML_PLAIN_SCALAR_STYLE}
use Rattle.yaml_parse_model.specs.scan_model.declared.name.yaml_sequence_style_t.{yaml_sequence_style_t}
use Rattle.yaml_parse_model.specs.scan_model.declared.name.yaml_sequence_style_t.TheVariants.{YAML_BLOCK_SEQUENCE_STYLE, YAML_FLOW_SEQUENCE_STYLE}
use Rattle.yaml_parse_model.specs.scan_model.declared.name.yaml_mapping_style_t.{yaml_mapping_style_t}
use Rattle.yaml_parse_model.specs.scan_model.declared.name.yaml_mapping_style_t.TheVariants.{YAML_BLOCK_MAPPING_STYLE, YAML_FLOW_MAPPING_STYLE}
use Rattle.yaml_parse_model.specs.scan_types.Tokens.{Token}
use Rattle.yaml_parse_model.specs.scan_types.Faults.{Fault}
use Rattle.yaml_parse_model.specs.Events.{TagDirective}
use Rattle.yaml_emit_laws.specs.parse_grammar.declared.Wants.{Wants}
use Rattle.yaml_emit_laws.specs.parse_grammar.declared.Side.{Side}
use Rattle.yaml_emit_laws.specs.parse_grammar.declared.Side.TheVariants.{Key, Value}
use Rattle.yaml_emit_laws.specs.parse_grammar.declared.Brackets.TheVariants as brackets
use Rattle.yaml_emit_laws.specs.parse_grammar.declared.Site.{Site}
use Rattle.yaml_emit_laws.specs.parse_grammar.declared.Site.TheVariants.{Root, Entry, IndentlessEntry, BlockPair, FlowPair}
use Rattle.yaml_emit_laws.specs.parse_grammar.Items.{Properties}
use Rattle.yaml_emit_laws.specs.parse_grammar.Trees.{next, mark_at, start_of, properties_of, spell_node, spell_colon, spell_more, spell_entries, spell_others, spell_pairs, spell_ends, spell_documents}
use Rattle.yaml_emit_laws.specs.parse_grammar.Trees as tree
use Rattle.yaml_parse_model.specs.Documents as documents
use Rattle.yaml_parse_loader.specs.Numbering.{Head, Span, Content, Contents, Pairs, DocumentContent, alias, scalar, sequence, mapping, no_items, item, no_pairs, pair, document_of}
use Rattle.yaml_round_content.specs.Loads.{Loads, no_more, in_front}
use Rattle.yaml_round_content.specs.TreeContent.{full_tag, tag_of, anchor_of, is_plain, version_in, tags_in}

-- ---- one node

abbrev pub span : yaml_mark_t → yaml_mark_t → Span
span from to = record { start_mark = from; end_mark = to }

abbrev pub span_of : tree.Span → Span
span_of s = span s.from s.to

-- a node begins with its properties
abbrev pub begins : Option Properties → yaml_mark_t → yaml_mark_t
begins None from = from
begins (Some p) from = p.from

abbrev pub head : Option (List ℕ) → Option (List ℕ) → yaml_mark_t → yaml_mark_t → Head
head anchor tag from to = record { anchor = anchor; tag = tag; start_mark = from; end_mark = to }

abbrev pub is_untagged : Option (List ℕ) → Bool
is_untagged None = true
is_untagged (Some tag) = false

-- An untagged scalar is plain-implicit or quoted-implicit; with the tag `!` it is untagged and plain-implicit.
abbrev pub placed_scalar : Option (List ℕ) → Option (List ℕ) → List ℕ → yaml_scalar_style_t
    → yaml_mark_t → yaml_mark_t → Content
placed_scalar anchor None value style from to = scalar (head anchor None from to) value
    (is_plain style) (not (is_plain style)) style
placed_scalar anchor (Some t) value style from to =
    if bytes_eq t (codes "!") then scalar (head anchor None from to) value true false style
    else scalar (head anchor (Some t) from to) value false false style

-- an empty node
abbrev pub placed_empty : Option (List ℕ) → Option (List ℕ) → yaml_mark_t → yaml_mark_t → Content
placed_empty anchor tag from to = scalar (head anchor tag from to) [] (is_untagged tag) false
    YAML_PLAIN_SCALAR_STYLE

abbrev pub placed_sequence : Option (List ℕ) → Option (List ℕ) → yaml_sequence_style_t
    → yaml_mark_t → yaml_mark_t → Contents → Span → Content
placed_sequence anchor tag style from to items at = sequence (head anchor tag from to)
    (is_untagged tag) style items at

abbrev pub placed_mapping : Option (List ℕ) → Option (List ℕ) → yaml_mapping_style_t
    → yaml_mark_t → yaml_mark_t → Pairs → Span → Content
placed_mapping anchor tag style from to pairs at = mapping (head anchor tag from to)
    (is_untagged tag) style pairs at

-- a node that is left out
abbrev pub nothing_at : yaml_mark_t → Content
nothing_at at = placed_empty None None at at

-- ---- where a collection ends

abbrev mutual
  pub items_end : tree.Items → Span
  items_end (tree.end_items s) = span_of s
  items_end (tree.single n more) = more_end more
  items_end (tree.pair s key value more) = more_end more

  pub more_end : tree.More → Span
  more_end (tree.end_more s) = span_of s
  more_end (tree.comma s items) = items_end items

abbrev pub entries_end : tree.Entries → Span
entries_end (tree.end_entries s) = span_of s
entries_end (tree.entry s n entries) = entries_end entries

abbrev pub pairs_end : tree.Pairs → Span
pairs_end (tree.end_pairs s) = span_of s
pairs_end (tree.block_pair s key value pairs) = pairs_end pairs

-- at the start of the token after it
abbrev pub ends_before : List Token → Span
ends_before rest = span (next rest) (next rest)

-- ---- nodes, before the tokens after them

abbrev mutual
  pub placed_node : {w : Wants} → List TagDirective → tree.Node w → List Token → Content
  placed_node ds (tree.alias s name) rest = alias name (span_of s)
  placed_node ds (tree.only_properties d) rest = placed_empty (properties_of d).anchor
      (full_tag ds (properties_of d).tag) (properties_of d).from (properties_of d).to
  placed_node ds (tree.with_properties d c) rest = placed_content ds (Some (properties_of d)) c rest
  placed_node ds (tree.bare c) rest = placed_content ds None c rest

  pub placed_content : {w : Wants} → List TagDirective → Option Properties → tree.Content w
      → List Token → Content
  placed_content ds p (tree.scalar s value style) rest = placed_scalar (anchor_of p) (tag_of ds p)
      value style (begins p s.from) s.to
  placed_content ds p (tree.flow brackets.Sequence s items) rest =
      placed_sequence (anchor_of p) (tag_of ds p) YAML_FLOW_SEQUENCE_STYLE (begins p s.from) s.to
      (placed_items ds items rest) (items_end items)
  placed_content ds p (tree.flow brackets.Mapping s items) rest =
      placed_mapping (anchor_of p) (tag_of ds p) YAML_FLOW_MAPPING_STYLE (begins p s.from) s.to
      (placed_parts ds items rest) (items_end items)
  placed_content ds p (tree.block_sequence s entries) rest =
      placed_sequence (anchor_of p) (tag_of ds p) YAML_BLOCK_SEQUENCE_STYLE (begins p s.from) s.to
      (placed_entries ds entries rest) (entries_end entries)
  placed_content ds p (tree.block_mapping s pairs) rest =
      placed_mapping (anchor_of p) (tag_of ds p) YAML_BLOCK_MAPPING_STYLE (begins p s.from) s.to
      (placed_pairs ds pairs rest) (pairs_end pairs)
  placed_content ds p (tree.indentless {s = side} s n others) rest =
      placed_sequence (anchor_of p) (tag_of ds p) YAML_BLOCK_SEQUENCE_STYLE (begins p s.from) s.to
      (item (placed_maybe ds n (IndentlessEntry side) s.to (spell_others others rest))
      (placed_others ds side others rest)) (ends_before rest)

  -- before is the end of the indicator that is before the node
  pub placed_maybe : {w : Wants} → List TagDirective → tree.Maybe w → Site → yaml_mark_t
      → List Token → Content
  placed_maybe ds tree.left_out place before rest = nothing_at (mark_at place before (next rest))
  placed_maybe ds (tree.there n) place before rest = placed_node ds n rest

  pub placed_colon : {w : Wants} → List TagDirective → tree.Colon w → Site → List Token → Content
  placed_colon ds tree.no_colon place rest = nothing_at (next rest)
  placed_colon ds (tree.colon s n) place rest = placed_maybe ds n place s.to rest

  -- inside the brackets of a sequence a pair is a mapping of its own
  pub placed_items : List TagDirective → tree.Items → List Token → Contents
  placed_items ds (tree.end_items s) rest = no_items
  placed_items ds (tree.single n more) rest = item
      (placed_node ds n (spell_more brackets.Sequence more rest)) (placed_more_items ds more rest)
  placed_items ds (tree.pair s key value more) rest = item
      (placed_mapping None None YAML_FLOW_MAPPING_STYLE s.from s.to
      (pair (placed_maybe ds key (FlowPair brackets.Sequence Key) s.to
      (spell_colon value (spell_more brackets.Sequence more rest)))
      (placed_colon ds value (FlowPair brackets.Sequence Value)
      (spell_more brackets.Sequence more rest)) no_pairs)
      (ends_before (spell_more brackets.Sequence more rest))) (placed_more_items ds more rest)

  pub placed_more_items : List TagDirective → tree.More → List Token → Contents
  placed_more_items ds (tree.end_more s) rest = no_items
  placed_more_items ds (tree.comma s items) rest = placed_items ds items rest

  -- inside the brackets of a mapping a lone node is a key, and its value is left out
  pub placed_parts : List TagDirective → tree.Items → List Token → Pairs
  placed_parts ds (tree.end_items s) rest = no_pairs
  placed_parts ds (tree.single n more) rest = pair
      (placed_node ds n (spell_more brackets.Mapping more rest))
      (nothing_at (next (spell_more brackets.Mapping more rest))) (placed_more_parts ds more rest)
  placed_parts ds (tree.pair s key value more) rest = pair
      (placed_maybe ds key (FlowPair brackets.Mapping Key) s.to
      (spell_colon value (spell_more brackets.Mapping more rest)))
      (placed_colon ds value (FlowPair brackets.Mapping Value)
      (spell_more brackets.Mapping more rest)) (placed_more_parts ds more rest)

  pub placed_more_parts : List TagDirective → tree.More → List Token → Pairs
  placed_more_parts ds (tree.end_more s) rest = no_pairs
  placed_more_parts ds (tree.comma s items) rest = placed_parts ds items rest

  pub placed_entries : List TagDirective → tree.Entries → List Token → Contents
  placed_entries ds (tree.end_entries s) rest = no_items
  placed_entries ds (tree.entry s n entries) rest = item
      (placed_maybe ds n Entry s.to (spell_entries entries rest)) (placed_entries ds entries rest)

  pub placed_others : List TagDirective → Side → tree.Others → List Token → Contents
  placed_others ds side tree.no_others rest = no_items
  placed_others ds side (tree.other s n others) rest = item
      (placed_maybe ds n (IndentlessEntry side) s.to (spell_others others rest))
      (placed_others ds side others rest)

  pub placed_pairs : List TagDirective → tree.Pairs → List Token → Pairs
  placed_pairs ds (tree.end_pairs s) rest = no_pairs
  placed_pairs ds (tree.block_pair s key value pairs) rest = pair
      (placed_maybe ds key (BlockPair Key) s.to (spell_colon value (spell_pairs pairs rest)))
      (placed_colon ds value (BlockPair Value) (spell_pairs pairs rest))
      (placed_pairs ds pairs rest)

-- ---- documents

-- it ends at its first `...`, or before the token after it
abbrev pub ends_at : List tree.Span → List Token → Span
ends_at [] rest = ends_before rest
ends_at (s ∷ ends) rest = span_of s

abbrev pub ends_implicitly : List tree.Span → Bool
ends_implicitly [] = true
ends_implicitly (s ∷ ends) = false

abbrev pub placed_documents : tree.Documents → List Token → List DocumentContent
placed_documents (tree.end_stream s) rest = []
placed_documents (tree.document ds s root ends more) rest = record {
  version = version_in ds;
  directives = tags_in ds;
  start_implicit = false;
  start_at = span (start_of ds s) s.to;
  root = placed_maybe (tags_in ds) root Root s.to (spell_ends ends (spell_documents more rest));
  end_implicit = ends_implicitly ends;
  end_at = ends_at ends (spell_documents more rest);
} ∷ placed_documents more rest

-- the first document may do without `---`
abbrev pub placed_first : tree.First → List Token → List DocumentContent → List DocumentContent
placed_first tree.no_first rest documents = documents
placed_first (tree.first n ends) rest documents = record {
  version = None;
  directives = [];
  start_implicit = true;
  start_at = ends_before (spell_node n (spell_ends ends rest));
  root = placed_node [] n (spell_ends ends rest);
  end_implicit = ends_implicitly ends;
  end_at = ends_at ends rest;
} ∷ documents

-- The documents of a tree, before the tokens after it.
abbrev pub tree_documents : tree.Stream → List Token → List DocumentContent
tree_documents t rest = placed_first t.first (spell_documents t.documents rest)
    (placed_documents t.documents rest)

-- ---- what they load

abbrev pub numbered_one : Result documents.Document Fault → Loads → Loads
numbered_one (Ok d) rest = in_front d.nodes d rest
numbered_one (Err f) rest = no_more (Some f)

-- Each document, its nodes numbered in preorder, up to the first alias that no node before it anchors.
abbrev pub loaded_documents : List DocumentContent → Loads
loaded_documents [] = no_more None
loaded_documents (d ∷ ds) = numbered_one (document_of d) (loaded_documents ds)
