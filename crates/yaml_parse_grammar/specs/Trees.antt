-- The grammar of token lists as derivation trees, and the tokens of a tree.
use Rattle.std.specs.Prelude.{ℕ, ℤ, List, [], ◌∷◌, Option, Some, None}
use Rattle.yaml_parse_model.specs.declared.yaml_mark_t.{yaml_mark_t}
use Rattle.yaml_parse_model.specs.declared.yaml_encoding_t.{yaml_encoding_t}
use Rattle.yaml_parse_model.specs.declared.yaml_scalar_style_t.{yaml_scalar_style_t}
use Rattle.yaml_parse_model.specs.declared.yaml_sequence_style_t.TheVariants.{YAML_FLOW_SEQUENCE_STYLE}
use Rattle.yaml_parse_model.specs.declared.yaml_mapping_style_t.TheVariants.{YAML_FLOW_MAPPING_STYLE}
use Rattle.yaml_parse_model.specs.scan_types.Tokens.{Token, TokenBody, zero_mark}
use Rattle.yaml_parse_model.specs.scan_types.Tokens as token
use Rattle.yaml_parse_model.specs.Events.{EventBody}
use Rattle.yaml_parse_model.specs.Events as event
use Rattle.yaml_parse_grammar.specs.declared.name.Wants.{Wants}
use Rattle.yaml_parse_grammar.specs.declared.name.Wants.TheVariants.{Flow, Block}
use Rattle.yaml_parse_grammar.specs.declared.name.Side.{Side}
use Rattle.yaml_parse_grammar.specs.declared.name.Side.TheVariants.{Key, Value}
use Rattle.yaml_parse_grammar.specs.declared.name.Brackets.{Brackets}
use Rattle.yaml_parse_grammar.specs.declared.name.Brackets.TheVariants as brackets
use Rattle.yaml_parse_grammar.specs.declared.name.Site.{Site}
use Rattle.yaml_parse_grammar.specs.declared.name.Site.TheVariants.{Root, Entry, IndentlessEntry, BlockPair, FlowPair}
use Rattle.yaml_parse_grammar.specs.Items.{RawEvent, Tag, Properties, Shape, item_at}
use Rattle.yaml_parse_grammar.specs.Items as item

-- where a token is
pub record Span : Type 0 where
  pub from : yaml_mark_t
  pub to : yaml_mark_t

abbrev pub token_at : TokenBody → Span → Token
token_at body span = record { body = body; start_mark = span.from; end_mark = span.to }

pub record AnchorToken : Type 0 where
  pub name : List ℕ
  pub span : Span

pub record TagToken : Type 0 where
  pub handle : List ℕ
  pub suffix : List ℕ
  pub span : Span

-- ANCHOR TAG? | TAG ANCHOR?
pub data PropertyTokens : Type 0 where
  anchor : AnchorToken → PropertyTokens
  anchor_tag : AnchorToken → TagToken → PropertyTokens
  tag : TagToken → PropertyTokens
  tag_anchor : TagToken → AnchorToken → PropertyTokens

mutual
  -- ALIAS | properties content? | content, of the contents that may be there
  pub data Node : Wants → Type 0 where
    alias : {w : Wants} → Span → List ℕ → Node w
    only_properties : {w : Wants} → PropertyTokens → Node w
    with_properties : {w : Wants} → PropertyTokens → Content w → Node w
    bare : {w : Wants} → Content w → Node w

  pub data Content : Wants → Type 0 where
    scalar : {w : Wants} → Span → List ℕ → yaml_scalar_style_t → Content w
    flow : {w : Wants} → Brackets → Span → Items → Content w
    block_sequence : {s : Option Side} → Span → Entries → Content (Block s)
    block_mapping : {s : Option Side} → Span → Pairs → Content (Block s)
    -- (BLOCK-ENTRY node?)+
    indentless : {s : Side} → Span → Maybe (Block None) → Others → Content (Block (Some s))

  -- a node, or nothing
  pub data Maybe : Wants → Type 0 where
    left_out : {w : Wants} → Maybe w
    there : {w : Wants} → Node w → Maybe w

  -- (VALUE node?)?
  pub data Colon : Wants → Type 0 where
    no_colon : {w : Wants} → Colon w
    colon : {w : Wants} → Span → Maybe w → Colon w

  -- what follows an opening bracket or a comma: the closing bracket, a node, or KEY node? (VALUE node?)?
  pub data Items : Type 0 where
    end_items : Span → Items
    single : Node Flow → More → Items
    pair : Span → Maybe Flow → Colon Flow → More → Items

  pub data More : Type 0 where
    end_more : Span → More
    comma : Span → Items → More

  -- (BLOCK-ENTRY node?)* BLOCK-END
  pub data Entries : Type 0 where
    end_entries : Span → Entries
    entry : Span → Maybe (Block None) → Entries → Entries

  -- (BLOCK-ENTRY node?)*
  pub data Others : Type 0 where
    no_others : Others
    other : Span → Maybe (Block None) → Others → Others

  -- (KEY node? (VALUE node?)?)* BLOCK-END
  pub data Pairs : Type 0 where
    end_pairs : Span → Pairs
    block_pair : Span → Maybe (Block (Some Key)) → Colon (Block (Some Value)) → Pairs → Pairs

pub data Directive : Type 0 where
  version : Span → ℤ → ℤ → Directive
  handle : Span → List ℕ → List ℕ → Directive

-- (directive* DOCUMENT-START node? DOCUMENT-END*)* STREAM-END
pub data Documents : Type 0 where
  end_stream : Span → Documents
  document : List Directive → Span → Maybe (Block None) → List Span → Documents → Documents

-- (node DOCUMENT-END*)?
pub data First : Type 0 where
  no_first : First
  first : Node (Block None) → List Span → First

pub record Stream : Type 0 where
  pub encoding : yaml_encoding_t
  pub start : Span
  pub first : First
  pub documents : Documents

-- ---- the tokens of a tree, before what follows them

abbrev pub anchor_token : AnchorToken → Token
anchor_token a = token_at (token.anchor a.name) a.span

abbrev pub tag_token : TagToken → Token
tag_token t = token_at (token.tag t.handle t.suffix) t.span

abbrev pub spell_properties : PropertyTokens → List Token → List Token
spell_properties (anchor a) rest = anchor_token a ∷ rest
spell_properties (anchor_tag a t) rest = anchor_token a ∷ tag_token t ∷ rest
spell_properties (tag t) rest = tag_token t ∷ rest
spell_properties (tag_anchor t a) rest = tag_token t ∷ anchor_token a ∷ rest

abbrev pub opening : Brackets → TokenBody
opening brackets.Sequence = token.flow_sequence_start
opening brackets.Mapping = token.flow_mapping_start

abbrev pub closing : Brackets → TokenBody
closing brackets.Sequence = token.flow_sequence_end
closing brackets.Mapping = token.flow_mapping_end

abbrev mutual
  pub spell_node : {w : Wants} → Node w → List Token → List Token
  spell_node (alias s name) rest = token_at (token.alias name) s ∷ rest
  spell_node (only_properties d) rest = spell_properties d rest
  spell_node (with_properties d c) rest = spell_properties d (spell_content c rest)
  spell_node (bare c) rest = spell_content c rest

  pub spell_content : {w : Wants} → Content w → List Token → List Token
  spell_content (scalar s value style) rest = token_at (token.scalar value style) s ∷ rest
  spell_content (flow b s items) rest = token_at (opening b) s ∷ spell_items b items rest
  spell_content (block_sequence s entries) rest = token_at token.block_sequence_start s
      ∷ spell_entries entries rest
  spell_content (block_mapping s pairs) rest = token_at token.block_mapping_start s ∷ spell_pairs
      pairs rest
  spell_content (indentless s n others) rest = token_at token.block_entry s ∷ spell_maybe n
      (spell_others others rest)

  pub spell_maybe : {w : Wants} → Maybe w → List Token → List Token
  spell_maybe left_out rest = rest
  spell_maybe (there n) rest = spell_node n rest

  pub spell_colon : {w : Wants} → Colon w → List Token → List Token
  spell_colon no_colon rest = rest
  spell_colon (colon s n) rest = token_at token.value s ∷ spell_maybe n rest

  pub spell_items : Brackets → Items → List Token → List Token
  spell_items b (end_items s) rest = token_at (closing b) s ∷ rest
  spell_items b (single n more) rest = spell_node n (spell_more b more rest)
  spell_items b (pair s key value more) rest = token_at token.key s ∷ spell_maybe key
      (spell_colon value (spell_more b more rest))

  pub spell_more : Brackets → More → List Token → List Token
  spell_more b (end_more s) rest = token_at (closing b) s ∷ rest
  spell_more b (comma s items) rest = token_at token.flow_entry s ∷ spell_items b items rest

  pub spell_entries : Entries → List Token → List Token
  spell_entries (end_entries s) rest = token_at token.block_end s ∷ rest
  spell_entries (entry s n entries) rest = token_at token.block_entry s ∷ spell_maybe n
      (spell_entries entries rest)

  pub spell_others : Others → List Token → List Token
  spell_others no_others rest = rest
  spell_others (other s n others) rest = token_at token.block_entry s ∷ spell_maybe n
      (spell_others others rest)

  pub spell_pairs : Pairs → List Token → List Token
  spell_pairs (end_pairs s) rest = token_at token.block_end s ∷ rest
  spell_pairs (block_pair s key value pairs) rest = token_at token.key s ∷ spell_maybe key
      (spell_colon value (spell_pairs pairs rest))

abbrev pub spell_directives : List Directive → List Token → List Token
spell_directives [] rest = rest
spell_directives (version s major minor ∷ ds) rest = token_at (token.version_directive major minor)
    s ∷ spell_directives ds rest
spell_directives (handle s name prefix ∷ ds) rest = token_at (token.tag_directive name prefix) s
    ∷ spell_directives ds rest

abbrev pub spell_ends : List Span → List Token → List Token
spell_ends [] rest = rest
spell_ends (s ∷ ends) rest = token_at token.document_end s ∷ spell_ends ends rest

abbrev pub spell_documents : Documents → List Token → List Token
spell_documents (end_stream s) rest = token_at token.stream_end s ∷ rest
spell_documents (document ds s root ends more) rest =
    spell_directives ds (token_at token.document_start s ∷ spell_maybe root
    (spell_ends ends (spell_documents more rest)))

abbrev pub spell_first : First → List Token → List Token
spell_first no_first rest = rest
spell_first (first n ends) rest = spell_node n (spell_ends ends rest)

abbrev pub spell : Stream → List Token → List Token
spell t rest = token_at (token.stream_start t.encoding) t.start ∷ spell_first t.first
    (spell_documents t.documents rest)

-- ---- what the events of a tree are made of

-- the start of the next token
abbrev pub next : List Token → yaml_mark_t
next [] = zero_mark
next (t ∷ ts) = t.start_mark

abbrev pub tag_of : TagToken → Tag
tag_of t = record { handle = t.handle; suffix = t.suffix; mark = t.span.from }

abbrev pub properties_of : PropertyTokens → Properties
properties_of (anchor a) = record {
  anchor = Some a.name;
  tag = None;
  from = a.span.from;
  to = a.span.to;
}
properties_of (anchor_tag a t) = record {
  anchor = Some a.name;
  tag = Some (tag_of t);
  from = a.span.from;
  to = t.span.to;
}
properties_of (tag t) = record {
  anchor = None;
  tag = Some (tag_of t);
  from = t.span.from;
  to = t.span.to;
}
properties_of (tag_anchor t a) = record {
  anchor = Some a.name;
  tag = Some (tag_of t);
  from = t.span.from;
  to = a.span.to;
}

abbrev pub flow_shape : Brackets → Shape
flow_shape brackets.Sequence = item.sequence YAML_FLOW_SEQUENCE_STYLE
flow_shape brackets.Mapping = item.mapping YAML_FLOW_MAPPING_STYLE

abbrev pub end_event : Brackets → EventBody
end_event brackets.Sequence = event.sequence_end
end_event brackets.Mapping = event.mapping_end

abbrev pub event_at : EventBody → yaml_mark_t → yaml_mark_t → RawEvent
event_at body from to = item_at (item.event body) from to

-- a left-out node is in a block collection at the end of the indicator before it, else at the next token's start
abbrev pub mark_at : Site → yaml_mark_t → yaml_mark_t → yaml_mark_t
mark_at Root before next = next
mark_at (FlowPair b side) before next = next
mark_at (Entry) before next = before
mark_at (IndentlessEntry side) before next = before
mark_at (BlockPair side) before next = before

-- where a document begins whose `---` is there
abbrev pub start_of : List Directive → Span → yaml_mark_t
start_of [] s = s.from
start_of (version d major minor ∷ ds) s = d.from
start_of (handle d name prefix ∷ ds) s = d.from

-- an event, and the number of tokens that are not asked for as it is given
abbrev pub Given : Type 0
Given = RawEvent × ℕ
