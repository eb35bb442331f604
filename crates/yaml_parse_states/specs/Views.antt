-- What a parser's fields mean, in the grammar's words.
use Rattle.std.specs.Prelude.{ℕ, Bool, true, false, List, [], ◌∷◌, reverse, Option, Some, None}
use Rattle.yaml_parse_model.specs.declared.yaml_mark_t.{yaml_mark_t}
use Rattle.yaml_parse_model.specs.declared.yaml_sequence_style_t.{yaml_sequence_style_t}
use Rattle.yaml_parse_model.specs.declared.yaml_sequence_style_t.TheVariants.{YAML_BLOCK_SEQUENCE_STYLE, YAML_FLOW_SEQUENCE_STYLE}
use Rattle.yaml_parse_model.specs.declared.yaml_scalar_style_t.TheVariants.{YAML_PLAIN_SCALAR_STYLE}
use Rattle.yaml_parse_model.specs.declared.yaml_mapping_style_t.{yaml_mapping_style_t}
use Rattle.yaml_parse_model.specs.declared.yaml_mapping_style_t.TheVariants.{YAML_BLOCK_MAPPING_STYLE, YAML_FLOW_MAPPING_STYLE}
use Rattle.yaml_parse_model.specs.scan_types.Tokens.{zero_mark}
use Rattle.yaml_parse_model.specs.Events.{Event, EventBody, directive_of}
use Rattle.yaml_parse_model.specs.Events as event
use Rattle.yaml_parse_grammar.specs.declared.name.Brackets.TheVariants as brackets
use Rattle.yaml_parse_grammar.specs.declared.name.Side.{Side}
use Rattle.yaml_parse_grammar.specs.declared.name.Side.TheVariants as side
use Rattle.yaml_parse_grammar.specs.declared.name.Site.TheVariants as site
use Rattle.yaml_parse_grammar.specs.States as grammar
use Rattle.yaml_parse_grammar.specs.Resolve as resolve
use Rattle.yaml_scan_model.specs.Texts.{Texts}
use Rattle.yaml_scan_model.specs.declared.tokens.Tokens.{Ghosts}
use Rattle.yaml_parse_states.specs.declared.event.EventKind.{EventKind}
use Rattle.yaml_parse_states.specs.declared.event.EventKind.TheVariants as kind
use Rattle.yaml_parse_states.specs.declared.event.Slot.{Slot}
use Rattle.yaml_parse_states.specs.declared.directives.Directives.{Directives}
use Rattle.yaml_parse_states.specs.declared.parser.Level.{Level}
use Rattle.yaml_parse_states.specs.declared.parser.Parser.{Parser}
use Rattle.yaml_parse_states.specs.declared.parser.State.{State}
use Rattle.yaml_parse_states.specs.declared.parser.State.TheVariants as state
use Rattle.yaml_parse_states.specs.Coming.{Coming, read, read_node}
use Rattle.yaml_parse_grammar.specs.declared.name.Wants.{Wants}

-- ---- states

-- which part of a pair a collection is, by the state after it
abbrev pub side_of : State → Side
side_of state.BlockMappingValue = side.Key
side_of _ = side.Value

-- A state's states, in a collection that starts there, by the state after that and those below.
abbrev pub over : State → yaml_mark_t → State → List grammar.State → List grammar.State
over state.StreamStart o n s = grammar.stream ∷ []
over state.FirstDocument o n s = grammar.first ∷ []
over state.DocumentStart o n s = grammar.documents ∷ []
over state.DocumentContent o n s =
    grammar.optional site.Root zero_mark ∷ grammar.document_end ∷ grammar.documents ∷ []
over state.DocumentEnd o n s = grammar.document_end ∷ grammar.documents ∷ []
over state.BlockSequenceEntry o n s = grammar.entries o ∷ s
over state.IndentlessSequenceEntry o n s = grammar.others (side_of n) ∷ s
over state.BlockMappingKey o n s = grammar.pairs o ∷ s
over state.BlockMappingValue o n s = grammar.colon (site.BlockPair side.Value) ∷ grammar.pairs o ∷ s
over state.FlowSequenceFirstEntry o n s = grammar.items brackets.Sequence o ∷ s
over state.FlowSequenceEntry o n s = grammar.more brackets.Sequence o ∷ s
over state.FlowPairKey o n s =
    grammar.optional (site.FlowPair brackets.Sequence side.Key) zero_mark
    ∷ grammar.colon (site.FlowPair brackets.Sequence side.Value) ∷ grammar.pair_end
    ∷ grammar.more brackets.Sequence o ∷ s
over state.FlowPairValue o n s =
    grammar.colon (site.FlowPair brackets.Sequence side.Value) ∷ grammar.pair_end
    ∷ grammar.more brackets.Sequence o ∷ s
over state.FlowPairEnd o n s = grammar.pair_end ∷ grammar.more brackets.Sequence o ∷ s
over state.FlowMappingFirstKey o n s = grammar.items brackets.Mapping o ∷ s
over state.FlowMappingKey o n s = grammar.more brackets.Mapping o ∷ s
over state.FlowMappingValue o n s =
    grammar.colon (site.FlowPair brackets.Mapping side.Value) ∷ grammar.more brackets.Mapping o ∷ s
over state.FlowMappingEmptyValue o n s = grammar.lone ∷ grammar.more brackets.Mapping o ∷ s
over state.End o n s = []

-- Of open collections, the innermost first: where it starts, the state after it, and the states from there on.
abbrev pub opener : {P : Type 0} → (P → yaml_mark_t) → List (Level P) → yaml_mark_t
opener at [] = zero_mark
opener at (l ∷ ls) = at l.start

abbrev pub behind : {P : Type 0} → List (Level P) → State
behind [] = state.End
behind (l ∷ ls) = l.next

unfoldable pub below : {P : Type 0} → (P → yaml_mark_t) → List (Level P) → List grammar.State
below at [] = []
below at (l ∷ ls) = over l.next (opener at ls) (behind ls) (below at ls)

-- the states of a state in open collections
abbrev pub stack : {P : Type 0} → (P → yaml_mark_t) → State → List (Level P) → List grammar.State
stack at x ls = over x (opener at ls) (behind ls) (below at ls)

abbrev pub directives_of : Directives → resolve.Directives
directives_of d = record { version = d.version; tags = d.tags }

-- ---- what is to come

-- of a parser, were it in that state
abbrev pub coming_in : {T P : Type 0} → Ghosts T P → State → Parser T P → Coming
coming_in g x p = read (g.to_come p.tokens) (g.fault_to_come p.tokens)
    (stack (g.mark_of p.tokens) x (reverse p.levels.items)) (directives_of p.directives)

abbrev pub coming_of : {T P : Type 0} → Ghosts T P → Parser T P → Coming
coming_of g p = coming_in g p.state p

-- of a parser with those states
abbrev pub coming_with : {T P : Type 0} → Ghosts T P → List grammar.State → Parser T P → Coming
coming_with g s p = read (g.to_come p.tokens) (g.fault_to_come p.tokens) s
    (directives_of p.directives)

-- the states below those of the innermost collection
abbrev pub below_of : {T P : Type 0} → Ghosts T P → Parser T P → List grammar.State
below_of g p = below (g.mark_of p.tokens) (reverse p.levels.items)

-- where a node has to come before that
abbrev pub node_coming : {T P : Type 0} → Ghosts T P → Wants → Parser T P → Coming
node_coming g w p = read_node w (g.to_come p.tokens) (g.fault_to_come p.tokens)
    (stack (g.mark_of p.tokens) p.state (reverse p.levels.items)) (directives_of p.directives)

-- ---- events

abbrev pub text_if : Bool → List ℕ → Option (List ℕ)
text_if false x = None
text_if true x = Some x

abbrev pub value_if : Bool → List ℕ → List ℕ
value_if false x = []
value_if true x = x

abbrev pub sequence_style : Bool → yaml_sequence_style_t
sequence_style false = YAML_BLOCK_SEQUENCE_STYLE
sequence_style true = YAML_FLOW_SEQUENCE_STYLE

abbrev pub mapping_style : Bool → yaml_mapping_style_t
mapping_style false = YAML_BLOCK_MAPPING_STYLE
mapping_style true = YAML_FLOW_MAPPING_STYLE

-- the anchor and the tag of what is in the slot
abbrev pub anchor_in : {P : Type 0} → Slot P → List ℕ → Option (List ℕ)
anchor_in s x = text_if s.has_anchor x

abbrev pub tag_in : {P : Type 0} → Slot P → List ℕ → Option (List ℕ)
tag_in s x = text_if s.has_tag x

-- the event in the slot, whose texts are the anchor, the tag and those of the token that was taken last
abbrev pub body_in : {P : Type 0} → Slot P → List ℕ → List ℕ → Texts → resolve.Directives
    → EventBody
body_in s a t u ds = body_by s.kind
  where
    body_by : EventKind → EventBody
    body_by kind.StreamStart = event.stream_start u.encoding
    body_by kind.StreamEnd = event.stream_end
    body_by kind.DocumentStart = event.document_start ds.version ds.tags s.implicit
    body_by kind.DocumentEnd = event.document_end s.implicit
    body_by kind.Alias = event.alias (value_if s.has_value u.value)
    body_by kind.Scalar = event.scalar (anchor_in s a) (tag_in s t) (value_if s.has_value u.value)
        s.implicit s.quoted_implicit s.style
    body_by kind.SequenceStart = event.sequence_start (anchor_in s a) (tag_in s t) s.implicit
        (sequence_style s.flow)
    body_by kind.SequenceEnd = event.sequence_end
    body_by kind.MappingStart = event.mapping_start (anchor_in s a) (tag_in s t) s.implicit
        (mapping_style s.flow)
    body_by kind.MappingEnd = event.mapping_end

-- an event of that kind, without properties and value
abbrev pub bare : {P : Type 0} → EventKind → Slot P → Slot P
bare k s = record s { kind = k; has_anchor = false; has_tag = false; has_value = false }

-- such an event, with the texts of a token, from one mark to another
abbrev pub bare_event : {T P : Type 0} → EventKind → Texts → yaml_mark_t → yaml_mark_t
    → Parser T P → Event
bare_event k u from to p = record {
  body = body_in (bare k p.event) p.anchor.items p.tag.items u (directives_of p.directives);
  start_mark = from;
  end_mark = to;
}

-- an empty node without properties, which is left out at a mark
abbrev pub blank_body : EventBody
blank_body = event.scalar None None [] true false YAML_PLAIN_SCALAR_STYLE

abbrev pub blank_event : yaml_mark_t → Event
blank_event m = record {
  body = blank_body;
  start_mark = m;
  end_mark = m;
}

-- the event that was given last
abbrev pub event_in : {T P : Type 0} → Ghosts T P → Parser T P → Event
event_in g p = record {
  body = body_in p.event p.anchor.items p.tag.items (g.texts p.tokens) (directives_of p.directives);
  start_mark = g.mark_of p.tokens p.event.start;
  end_mark = g.mark_of p.tokens p.event.end;
}
