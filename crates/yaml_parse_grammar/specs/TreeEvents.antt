-- The events of a tree, before tags and directives are resolved, and how many tokens are asked for as each is given.
use Rattle.std.specs.Prelude.{ℕ, ◌+◌, ◌-◌, true, false, List, [], ◌∷◌, ◌++◌, zip, Option, Some, None}
use Rattle.yaml_parse_model.specs.declared.yaml_mark_t.{yaml_mark_t}
use Rattle.yaml_parse_model.specs.declared.yaml_sequence_style_t.TheVariants.{YAML_BLOCK_SEQUENCE_STYLE}
use Rattle.yaml_parse_model.specs.declared.yaml_mapping_style_t.TheVariants.{YAML_BLOCK_MAPPING_STYLE, YAML_FLOW_MAPPING_STYLE}
use Rattle.yaml_parse_model.specs.Events as event
use Rattle.yaml_parse_grammar.specs.declared.name.Wants.{Wants}
use Rattle.yaml_parse_grammar.specs.declared.name.Side.{Side}
use Rattle.yaml_parse_grammar.specs.declared.name.Side.TheVariants.{Key, Value}
use Rattle.yaml_parse_grammar.specs.declared.name.Brackets.{Brackets}
use Rattle.yaml_parse_grammar.specs.declared.name.Brackets.TheVariants as brackets
use Rattle.yaml_parse_grammar.specs.declared.name.Site.{Site}
use Rattle.yaml_parse_grammar.specs.declared.name.Site.TheVariants.{Root, Entry, IndentlessEntry, BlockPair, FlowPair}
use Rattle.yaml_parse_grammar.specs.Items.{RawEvent, Properties, item_at, blank, properties_alone, node_at}
use Rattle.yaml_parse_grammar.specs.Items as item
use Rattle.yaml_parse_grammar.specs.Trees.{Span, PropertyTokens, Node, Content, Maybe, Colon, Items, More, Entries, Others, Pairs, Directive, Documents, First, Stream, Given, properties_of, flow_shape, end_event, event_at, mark_at, start_of, anchor, anchor_tag, tag, tag_anchor, alias, only_properties, with_properties, bare, scalar, flow, block_sequence, block_mapping, indentless, left_out, there, no_colon, colon, end_items, single, pair, end_more, comma, end_entries, entry, no_others, other, end_pairs, block_pair, version, handle, end_stream, document, no_first, first}

-- ---- where the parts of a tree begin; next is the start of the token after a part

abbrev pub content_start : {w : Wants} → Content w → yaml_mark_t
content_start (scalar s value style) = s.from
content_start (flow b s items) = s.from
content_start (block_sequence s entries) = s.from
content_start (block_mapping s pairs) = s.from
content_start (indentless s n entries) = s.from

abbrev pub node_start : {w : Wants} → Node w → yaml_mark_t
node_start (alias s name) = s.from
node_start (only_properties d) = (properties_of d).from
node_start (with_properties d c) = (properties_of d).from
node_start (bare c) = content_start c

abbrev pub colon_start : {w : Wants} → Colon w → yaml_mark_t → yaml_mark_t
colon_start no_colon next = next
colon_start (colon s n) next = s.from

abbrev pub more_start : More → yaml_mark_t
more_start (end_more s) = s.from
more_start (comma s items) = s.from

abbrev pub entries_start : Entries → yaml_mark_t
entries_start (end_entries s) = s.from
entries_start (entry s n entries) = s.from

abbrev pub others_start : Others → yaml_mark_t → yaml_mark_t
others_start no_others next = next
others_start (other s n entries) next = s.from

abbrev pub pairs_start : Pairs → yaml_mark_t
pairs_start (end_pairs s) = s.from
pairs_start (block_pair s key value pairs) = s.from

abbrev pub ends_start : List Span → yaml_mark_t → yaml_mark_t
ends_start [] next = next
ends_start (s ∷ ends) next = s.from

abbrev pub documents_start : Documents → yaml_mark_t
documents_start (end_stream s) = s.from
documents_start (document ds s root ends more) = start_of ds s

-- ---- the events

-- the mapping of a pair inside the brackets of a sequence
abbrev pub pair_opens : Brackets → Span → List RawEvent
pair_opens brackets.Sequence s =
    item_at (item.node None None (item.mapping YAML_FLOW_MAPPING_STYLE)) s.from s.to ∷ []
pair_opens brackets.Mapping s = []

abbrev pub pair_closes : Brackets → yaml_mark_t → List RawEvent
pair_closes brackets.Sequence next = event_at event.mapping_end next next ∷ []
pair_closes brackets.Mapping next = []

-- a lone node inside the brackets of a mapping has an empty value
abbrev pub lone_value : Brackets → yaml_mark_t → List RawEvent
lone_value brackets.Sequence next = []
lone_value brackets.Mapping next = blank next ∷ []

abbrev mutual
  pub node_events : {w : Wants} → Node w → yaml_mark_t → List RawEvent
  node_events (alias s name) next = event_at (event.alias name) s.from s.to ∷ []
  node_events (only_properties d) next = properties_alone (properties_of d) ∷ []
  node_events (with_properties d c) next = content_events c (Some (properties_of d)) next
  node_events (bare c) next = content_events c None next

  pub content_events : {w : Wants} → Content w → Option Properties → yaml_mark_t → List RawEvent
  content_events (scalar s value style) p next =
      node_at p (item.scalar value style) s.from s.to ∷ []
  content_events (flow b s items) p next =
      node_at p (flow_shape b) s.from s.to ∷ items_events b items
  content_events (block_sequence s entries) p next =
      node_at p (item.sequence YAML_BLOCK_SEQUENCE_STYLE) s.from s.to ∷ entries_events entries
  content_events (block_mapping s pairs) p next =
      node_at p (item.mapping YAML_BLOCK_MAPPING_STYLE) s.from s.to ∷ pairs_events pairs
  content_events (indentless {s = side} s n entries) p next =
      node_at p (item.sequence YAML_BLOCK_SEQUENCE_STYLE) s.from s.to ∷ []
      ++ maybe_events n (IndentlessEntry side) s.to (others_start entries next)
      ++ others_events side entries next

  -- before is the end of the indicator that is before the node
  pub maybe_events : {w : Wants} → Maybe w → Site → yaml_mark_t → yaml_mark_t → List RawEvent
  maybe_events left_out place before next = blank (mark_at place before next) ∷ []
  maybe_events (there n) place before next = node_events n next

  pub colon_events : {w : Wants} → Colon w → Site → yaml_mark_t → List RawEvent
  colon_events no_colon place next = blank next ∷ []
  colon_events (colon s n) place next = maybe_events n place s.to next

  pub items_events : Brackets → Items → List RawEvent
  items_events b (end_items s) = event_at (end_event b) s.from s.to ∷ []
  items_events b (single n more) =
      node_events n (more_start more)
      ++ lone_value b (more_start more)
      ++ more_events b more
  items_events b (pair s key value more) =
      pair_opens b s
      ++ maybe_events key (FlowPair b Key) s.to (colon_start value (more_start more))
      ++ colon_events value (FlowPair b Value) (more_start more)
      ++ pair_closes b (more_start more)
      ++ more_events b more

  pub more_events : Brackets → More → List RawEvent
  more_events b (end_more s) = event_at (end_event b) s.from s.to ∷ []
  more_events b (comma s items) = items_events b items

  pub entries_events : Entries → List RawEvent
  entries_events (end_entries s) = event_at event.sequence_end s.from s.to ∷ []
  entries_events (entry s n entries) =
      maybe_events n Entry s.to (entries_start entries) ++ entries_events entries

  pub others_events : Side → Others → yaml_mark_t → List RawEvent
  others_events side no_others next = event_at event.sequence_end next next ∷ []
  others_events side (other s n entries) next =
      maybe_events n (IndentlessEntry side) s.to (others_start entries next)
      ++ others_events side entries next

  pub pairs_events : Pairs → List RawEvent
  pairs_events (end_pairs s) = event_at event.mapping_end s.from s.to ∷ []
  pairs_events (block_pair s key value pairs) =
      maybe_events key (BlockPair Key) s.to (colon_start value (pairs_start pairs))
      ++ colon_events value (BlockPair Value) (pairs_start pairs)
      ++ pairs_events pairs

abbrev pub directives_events : List Directive → List RawEvent
directives_events [] = []
directives_events (version s major minor ∷ ds) =
    item_at (item.version_directive major minor) s.from s.to ∷ directives_events ds
directives_events (handle s name prefix ∷ ds) =
    item_at (item.tag_directive name prefix) s.from s.to ∷ directives_events ds

-- only the first DOCUMENT-END has an event
abbrev pub ends_events : List Span → yaml_mark_t → List RawEvent
ends_events [] next = event_at (event.document_end true) next next ∷ []
ends_events (s ∷ ends) next = event_at (event.document_end false) s.from s.to ∷ []

abbrev pub documents_events : Documents → List RawEvent
documents_events (end_stream s) = event_at event.stream_end s.from s.to ∷ []
documents_events (document ds s root ends more) =
    directives_events ds
    ++ item_at (item.document false) (start_of ds s) s.to ∷ []
    ++ maybe_events root Root s.to (ends_start ends (documents_start more))
    ++ ends_events ends (documents_start more)
    ++ documents_events more

abbrev pub first_events : First → yaml_mark_t → List RawEvent
first_events no_first next = []
first_events (first n ends) next =
    item_at (item.document true) (node_start n) (node_start n) ∷ []
    ++ node_events n (ends_start ends next)
    ++ ends_events ends next

abbrev pub tree_events : Stream → List RawEvent
tree_events t =
    event_at (event.stream_start t.encoding) t.start.from t.start.to ∷ []
    ++ first_events t.first (documents_start t.documents)
    ++ documents_events t.documents

-- ---- in which order tokens are asked for and events given

-- A token is asked for; an event is given; an event is given that depends on the next token, which
-- is asked for too.
pub data Turn : Type 0 where
  asks : Turn
  gives : Turn
  gives_at_next : Turn

abbrev pub properties_turns : PropertyTokens → List Turn
properties_turns (anchor a) = asks ∷ []
properties_turns (anchor_tag a t) = asks ∷ asks ∷ []
properties_turns (tag t) = asks ∷ []
properties_turns (tag_anchor t a) = asks ∷ asks ∷ []

abbrev pub pair_opens_turns : Brackets → List Turn
pair_opens_turns brackets.Sequence = gives ∷ []
pair_opens_turns brackets.Mapping = []

abbrev pub pair_closes_turns : Brackets → List Turn
pair_closes_turns brackets.Sequence = gives_at_next ∷ []
pair_closes_turns brackets.Mapping = []

abbrev pub lone_turns : Brackets → List Turn
lone_turns brackets.Sequence = []
lone_turns brackets.Mapping = gives_at_next ∷ []

abbrev mutual
  pub node_turns : {w : Wants} → Node w → List Turn
  node_turns (alias s name) = asks ∷ gives ∷ []
  node_turns (only_properties d) = properties_turns d ++ gives_at_next ∷ []
  node_turns (with_properties d c) = properties_turns d ++ content_turns c
  node_turns (bare c) = content_turns c

  pub content_turns : {w : Wants} → Content w → List Turn
  content_turns (scalar s value style) = asks ∷ gives ∷ []
  content_turns (flow b s items) = asks ∷ gives ∷ items_turns b items
  content_turns (block_sequence s entries) = asks ∷ gives ∷ entries_turns entries
  content_turns (block_mapping s pairs) = asks ∷ gives ∷ pairs_turns pairs
  content_turns (indentless s n entries) = asks ∷ gives ∷ maybe_turns n ++ others_turns entries

  pub maybe_turns : {w : Wants} → Maybe w → List Turn
  maybe_turns left_out = gives_at_next ∷ []
  maybe_turns (there n) = node_turns n

  pub colon_turns : {w : Wants} → Colon w → List Turn
  colon_turns no_colon = gives_at_next ∷ []
  colon_turns (colon s n) = asks ∷ maybe_turns n

  pub items_turns : Brackets → Items → List Turn
  items_turns b (end_items s) = asks ∷ gives ∷ []
  items_turns b (single n more) = node_turns n ++ lone_turns b ++ more_turns b more
  items_turns b (pair s key value more) =
      asks ∷ pair_opens_turns b
      ++ maybe_turns key
      ++ colon_turns value
      ++ pair_closes_turns b
      ++ more_turns b more

  pub more_turns : Brackets → More → List Turn
  more_turns b (end_more s) = asks ∷ gives ∷ []
  more_turns b (comma s items) = asks ∷ items_turns b items

  pub entries_turns : Entries → List Turn
  entries_turns (end_entries s) = asks ∷ gives ∷ []
  entries_turns (entry s n entries) = asks ∷ maybe_turns n ++ entries_turns entries

  pub others_turns : Others → List Turn
  others_turns no_others = gives_at_next ∷ []
  others_turns (other s n entries) = asks ∷ maybe_turns n ++ others_turns entries

  pub pairs_turns : Pairs → List Turn
  pairs_turns (end_pairs s) = asks ∷ gives ∷ []
  pairs_turns (block_pair s key value pairs) =
      asks ∷ maybe_turns key ++ colon_turns value ++ pairs_turns pairs

abbrev pub directives_turns : List Directive → List Turn
directives_turns [] = []
directives_turns (d ∷ ds) = asks ∷ gives ∷ directives_turns ds

abbrev pub each_asks : List Span → List Turn
each_asks [] = []
each_asks (s ∷ ends) = asks ∷ each_asks ends

abbrev pub ends_turns : List Span → List Turn
ends_turns [] = gives_at_next ∷ []
ends_turns (s ∷ ends) = asks ∷ gives ∷ each_asks ends

abbrev pub documents_turns : Documents → List Turn
documents_turns (end_stream s) = asks ∷ gives ∷ []
documents_turns (document ds s root ends more) =
    directives_turns ds
    ++ asks ∷ gives ∷ []
    ++ maybe_turns root
    ++ ends_turns ends
    ++ documents_turns more

abbrev pub first_turns : First → List Turn
first_turns no_first = []
first_turns (first n ends) = gives_at_next ∷ node_turns n ++ ends_turns ends

abbrev pub tree_turns : Stream → List Turn
tree_turns t = asks ∷ gives ∷ first_turns t.first ++ documents_turns t.documents

-- ---- each event, and how many tokens are not asked for as it is given

abbrev pub tokens_in : List Turn → ℕ
tokens_in [] = 0
tokens_in (asks ∷ turns) = tokens_in turns + 1
tokens_in (gives ∷ turns) = tokens_in turns
tokens_in (gives_at_next ∷ turns) = tokens_in turns

-- after is the number of tokens after the turns
abbrev pub unasked : List Turn → ℕ → List ℕ
unasked [] behind = []
unasked (asks ∷ turns) behind = unasked turns behind
unasked (gives ∷ turns) behind = (tokens_in turns + behind) ∷ unasked turns behind
unasked (gives_at_next ∷ turns) behind = ((tokens_in turns + behind) - 1) ∷ unasked turns behind

-- after is the number of tokens after the tree
abbrev pub given_of : Stream → ℕ → List Given
given_of t behind = zip (tree_events t) (unasked (tree_turns t) behind)
