-- The events of a tree in the form that computes: each beside the number of tokens that are not asked for as it is given, with
-- the tokens and the events after it handed down. The laws of the machine use it; it is what `TreeEvents.antt` says.
use Rattle.std.specs.Prelude.{ℕ, true, false, List, [], ◌∷◌, length, Option, Some, None}
use Rattle.yaml_parse_model.specs.declared.yaml_mark_t.{yaml_mark_t}
use Rattle.yaml_parse_model.specs.declared.yaml_sequence_style_t.TheVariants.{YAML_BLOCK_SEQUENCE_STYLE}
use Rattle.yaml_parse_model.specs.declared.yaml_mapping_style_t.TheVariants.{YAML_BLOCK_MAPPING_STYLE, YAML_FLOW_MAPPING_STYLE}
use Rattle.yaml_parse_model.specs.scan_types.Tokens.{Token}
use Rattle.yaml_parse_model.specs.scan_types.Tokens as token
use Rattle.yaml_parse_model.specs.Events as event
use Rattle.yaml_parse_grammar.specs.declared.name.Wants.{Wants}
use Rattle.yaml_parse_grammar.specs.declared.name.Side.{Side}
use Rattle.yaml_parse_grammar.specs.declared.name.Side.TheVariants.{Key, Value}
use Rattle.yaml_parse_grammar.specs.declared.name.Brackets.{Brackets}
use Rattle.yaml_parse_grammar.specs.declared.name.Brackets.TheVariants as brackets
use Rattle.yaml_parse_grammar.specs.declared.name.Site.{Site}
use Rattle.yaml_parse_grammar.specs.declared.name.Site.TheVariants.{Root, Entry, IndentlessEntry, BlockPair, FlowPair}
use Rattle.yaml_parse_grammar.specs.Items.{Properties, item_at, blank, properties_alone, node_at}
use Rattle.yaml_parse_grammar.specs.Items as item
use Rattle.yaml_parse_grammar.specs.Trees.{Span, Node, Content, Maybe, Colon, Items, More, Entries, Others, Pairs, Directive, Documents, First, Stream, Given, token_at, spell_items, spell_more, spell_entries, spell_others, spell_pairs, spell_colon, spell_maybe, spell_node, spell_directives, spell_ends, spell_documents, spell_first, next, properties_of, flow_shape, end_event, event_at, mark_at, start_of, alias, only_properties, with_properties, bare, scalar, flow, block_sequence, block_mapping, indentless, left_out, there, no_colon, colon, end_items, single, pair, end_more, comma, end_entries, entry, no_others, other, end_pairs, block_pair, version, handle, end_stream, document, no_first, first}

-- how many tokens are left after the next
abbrev pub behind : List Token → ℕ
behind [] = 0
behind (t ∷ ts) = length ts

-- the mapping of a pair inside the brackets of a sequence
abbrev pub pair_start : Brackets → Span → List Token → List Given → List Given
pair_start brackets.Sequence s rest
    more = (
      item_at (item.node None None (item.mapping YAML_FLOW_MAPPING_STYLE)) s.from s.to,
      length
          rest,
    ) ∷ more
pair_start brackets.Mapping s rest more = more

abbrev pub pair_end : Brackets → List Token → List Given → List Given
pair_end brackets.Sequence rest more = (
  event_at event.mapping_end (next rest) (next rest),
  behind
      rest,
) ∷ more
pair_end brackets.Mapping rest more = more

-- a lone node inside the brackets of a mapping has an empty value
abbrev pub lone : Brackets → List Token → List Given → List Given
lone brackets.Sequence rest more = more
lone brackets.Mapping rest more = (blank (next rest), behind rest) ∷ more

abbrev mutual
  pub items_node : {w : Wants} → Node w → List Token → List Given → List Given
  items_node (alias s name) rest more = (event_at (event.alias name) s.from s.to, length rest)
      ∷ more
  items_node (only_properties d) rest more = (properties_alone (properties_of d), behind rest)
      ∷ more
  items_node (with_properties d c) rest more = items_content c (Some (properties_of d)) rest more
  items_node (bare c) rest more = items_content c None rest more

  pub items_content : {w : Wants} → Content w → Option Properties → List Token → List Given
      → List Given
  items_content (scalar s value style) p rest more = (
    node_at p (item.scalar value style) s.from
        s.to,
    length rest,
  ) ∷ more
  items_content (flow b s items) p rest more =
      (node_at p (flow_shape b) s.from s.to, length (spell_items b items rest)) ∷ items_items b
      items rest more
  items_content (block_sequence s entries) p rest more = (
    node_at p (item.sequence YAML_BLOCK_SEQUENCE_STYLE) s.from s.to,
    length
        (spell_entries entries rest),
  ) ∷ items_entries entries rest more
  items_content (block_mapping s pairs) p rest more = (
    node_at p (item.mapping YAML_BLOCK_MAPPING_STYLE) s.from s.to,
    length
        (spell_pairs pairs rest),
  ) ∷ items_pairs pairs rest more
  items_content (indentless {s = side} s n others) p rest more = (
    node_at p (item.sequence YAML_BLOCK_SEQUENCE_STYLE) s.from s.to,
    length
        (spell_maybe n (spell_others others rest)),
  )
      ∷ items_maybe n (IndentlessEntry side) s.to (spell_others others rest)
      (items_others side others rest more)

  -- before is the end of the indicator that is before the node
  pub items_maybe : {w : Wants} → Maybe w → Site → yaml_mark_t → List Token → List Given
      → List Given
  items_maybe left_out place before rest more = (
    blank (mark_at place before (next rest)),
    behind
        rest,
  ) ∷ more
  items_maybe (there n) place before rest more = items_node n rest more

  pub items_colon : {w : Wants} → Colon w → Site → List Token → List Given → List Given
  items_colon no_colon place rest more = (blank (next rest), behind rest) ∷ more
  items_colon (colon s n) place rest more = items_maybe n place s.to rest more

  pub items_items : Brackets → Items → List Token → List Given → List Given
  items_items b (end_items s) rest more = (event_at (end_event b) s.from s.to, length rest) ∷ more
  items_items b (single n others) rest more =
      items_node n (spell_more b others rest)
      (lone b (spell_more b others rest) (items_more b others rest more))
  items_items b (pair s key value others) rest more =
      pair_start b s (spell_maybe key (spell_colon value (spell_more b others rest)))
      (items_maybe key (FlowPair b Key) s.to (spell_colon value (spell_more b others rest))
      (items_colon value (FlowPair b Value) (spell_more b others rest)
      (pair_end b (spell_more b others rest) (items_more b others rest more))))

  pub items_more : Brackets → More → List Token → List Given → List Given
  items_more b (end_more s) rest more = (event_at (end_event b) s.from s.to, length rest) ∷ more
  items_more b (comma s items) rest more = items_items b items rest more

  pub items_entries : Entries → List Token → List Given → List Given
  items_entries (end_entries s) rest more = (event_at event.sequence_end s.from s.to, length rest)
      ∷ more
  items_entries (entry s n entries) rest more = items_maybe n Entry s.to
      (spell_entries entries rest) (items_entries entries rest more)

  pub items_others : Side → Others → List Token → List Given → List Given
  items_others side no_others rest more = (
    event_at event.sequence_end (next rest) (next rest),
    behind rest,
  ) ∷ more
  items_others side (other s n others) rest more =
      items_maybe n (IndentlessEntry side) s.to (spell_others others rest)
      (items_others side others rest more)

  pub items_pairs : Pairs → List Token → List Given → List Given
  items_pairs (end_pairs s) rest more = (event_at event.mapping_end s.from s.to, length rest) ∷ more
  items_pairs (block_pair s key value pairs) rest more =
      items_maybe key (BlockPair Key) s.to (spell_colon value (spell_pairs pairs rest))
      (items_colon value (BlockPair Value) (spell_pairs pairs rest) (items_pairs pairs rest more))

abbrev pub items_directives : List Directive → List Token → List Given → List Given
items_directives [] rest more = more
items_directives (version s major minor ∷ ds) rest more =
    (item_at (item.version_directive major minor) s.from s.to, length (spell_directives ds rest))
    ∷ items_directives ds rest more
items_directives (handle s name prefix ∷ ds) rest more =
    (item_at (item.tag_directive name prefix) s.from s.to, length (spell_directives ds rest))
    ∷ items_directives ds rest more

-- only the first DOCUMENT-END has an event
abbrev pub items_ends : List Span → List Token → List Given → List Given
items_ends [] rest more = (event_at (event.document_end true) (next rest) (next rest), behind rest)
    ∷ more
items_ends (s ∷ ends) rest more = (
  event_at (event.document_end false) s.from s.to,
  length
      (spell_ends ends rest),
) ∷ more

abbrev pub items_documents : Documents → List Token → List Given
items_documents (end_stream s) rest = (event_at event.stream_end s.from s.to, length rest) ∷ []
items_documents (document ds s root ends more) rest =
    items_directives ds (token_at token.document_start s ∷ spell_maybe root
    (spell_ends ends (spell_documents more rest)))
    ((
      item_at (item.document false) (start_of ds s) s.to,
      length
          (spell_maybe root (spell_ends ends (spell_documents more rest))),
    )
    ∷ items_maybe root Root s.to (spell_ends ends (spell_documents more rest))
    (items_ends ends (spell_documents more rest) (items_documents more rest)))

abbrev pub items_first : First → List Token → List Given → List Given
items_first no_first rest more = more
items_first (first n ends) rest more = (
  item_at (item.document true) (next (spell_node n (spell_ends ends rest)))
      (next (spell_node n (spell_ends ends rest))),
  behind (spell_node n (spell_ends ends rest)),
)
    ∷ items_node n (spell_ends ends rest) (items_ends ends rest more)

abbrev pub items : Stream → List Token → List Given
items t rest = (
  event_at (event.stream_start t.encoding) t.start.from t.start.to,
  length
      (spell_first t.first (spell_documents t.documents rest)),
)
    ∷ items_first t.first (spell_documents t.documents rest) (items_documents t.documents rest)
