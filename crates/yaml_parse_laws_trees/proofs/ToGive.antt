-- What a state still gives: the events of a part of some documents, and what follows them.
use Rattle.std.proofs.Common.{◌≡◌, ℕ, Bool, true, false, List, [], ◌∷◌, ◌++◌, Option, Some, None, refl, sym, ap, subst, ◌∙◌, arith}
use Rattle.yaml_parse_laws_trees.proofs.Words.{yaml_mark_t, yaml_encoding_t, YAML_ANY_ENCODING, yaml_token_type_t, yaml_version_directive_t, Token, TokenBody, type_of, zero_mark, Event, EventBody, TagDirective, RawEvent, RawEventBody, Properties, Shape, State, choice_at, taken_at, documents_taken, content_taken, node_taken, lone_below, left_at, wants_of, placed, spanning, Contents, alias, scalar, sequence, mapping, no_items, item, no_pairs, pair, events, item_events, pair_events, DocumentContent, document_events, Head, MayLeave, opens_first, was_take}
use Rattle.yaml_parse_model.specs.scan_types.Tokens as token
use Rattle.yaml_parse_laws_trees.specs.parse_grammar.parse_model.Events as event
use Rattle.yaml_parse_laws_trees.specs.parse_grammar.declared.Wants.{Wants}
use Rattle.yaml_parse_laws_trees.specs.parse_grammar.declared.Wants.TheVariants.{Flow, Block}
use Rattle.yaml_parse_laws_trees.specs.parse_grammar.declared.Brackets.{Brackets}
use Rattle.yaml_parse_laws_trees.specs.parse_grammar.declared.Brackets.TheVariants as brackets
use Rattle.yaml_parse_laws_trees.specs.parse_grammar.declared.Choice.TheVariants.{Take, Open}
use Rattle.yaml_parse_laws_trees.specs.parse_grammar.Items as item
use Rattle.yaml_parse_laws_trees.specs.parse_grammar.States as state
use Rattle.yaml_parse_loader.specs.Numbering.{Span, Content, Pairs}

-- ---- parts

-- the events of a part, before others
pub record Part (T : Type 0) (events_of : T → List Event → List Event) (P : List Event → Type 0) (es : List Event) : Type 0 where
  pub part : T
  pub rest : List Event
  pub same : es ≡ events_of part rest
  pub goes : P rest

abbrev pub at_span : EventBody → Span → Event
at_span body at = spanning body at.start_mark at.end_mark

abbrev pub items_and_end : Contents × Span → List Event → List Event
items_and_end x rest = item_events x.0 (at_span event.sequence_end x.1 ∷ rest)

abbrev pub pairs_and_end : Pairs × Span → List Event → List Event
pairs_and_end x rest = pair_events x.0 (at_span event.mapping_end x.1 ∷ rest)

abbrev pub mapping_end : Span → List Event → List Event
mapping_end at rest = at_span event.mapping_end at ∷ rest

abbrev pub document_end : Bool × Span → List Event → List Event
document_end x rest = at_span (event.document_end x.0) x.1 ∷ rest

abbrev pub documents_before : List DocumentContent → List Event → List Event
documents_before [] rest = rest
documents_before (d ∷ ds) rest = document_events d (documents_before ds rest)

abbrev pub documents_and_end : List DocumentContent × Span → List Event → List Event
documents_and_end x rest = documents_before x.0 (at_span event.stream_end x.1 ∷ rest)

abbrev pub stream_start : yaml_encoding_t × Span → List Event → List Event
stream_start x rest = at_span (event.stream_start x.0) x.1 ∷ rest

abbrev pub Node : (List Event → Type 0) → List Event → Type 0
Node P es = Part Content events P es

abbrev pub Items : (List Event → Type 0) → List Event → Type 0
Items P es = Part (Contents × Span) items_and_end P es

abbrev pub PairList : (List Event → Type 0) → List Event → Type 0
PairList P es = Part (Pairs × Span) pairs_and_end P es

abbrev pub MappingEnd : (List Event → Type 0) → List Event → Type 0
MappingEnd P es = Part Span mapping_end P es

abbrev pub DocumentEnd : (List Event → Type 0) → List Event → Type 0
DocumentEnd P es = Part (Bool × Span) document_end P es

abbrev pub Documents : (List Event → Type 0) → List Event → Type 0
Documents P es = Part (List DocumentContent × Span) documents_and_end P es

abbrev pub Stream : (List Event → Type 0) → List Event → Type 0
Stream P es = Part (yaml_encoding_t × Span) stream_start (Documents P) es

abbrev pub InBrackets : Brackets → (List Event → Type 0) → List Event → Type 0
InBrackets brackets.Sequence P es = Items P es
InBrackets brackets.Mapping P es = PairList P es

-- ---- states

abbrev pub ToGive : State → (List Event → Type 0) → List Event → Type 0
ToGive state.stream P es = Stream P es
ToGive state.first P es = Documents P es
ToGive state.documents P es = Documents P es
ToGive (state.directives from) P es = Documents P es
ToGive (state.optional place before) P es = Node P es
ToGive state.document_end P es = DocumentEnd P es
ToGive (state.entries opener) P es = Items P es
ToGive (state.others side) P es = Items P es
ToGive (state.pairs opener) P es = PairList P es
ToGive (state.colon place) P es = Node P es
ToGive (state.with_properties w p) P es = Node P es
ToGive (state.items b opener) P es = InBrackets b P es
ToGive (state.more b opener) P es = InBrackets b P es
ToGive state.pair_end P es = MappingEnd P es
ToGive state.lone P es = Node P es

-- what the states of a stack give, the topmost first
abbrev pub Over : List State → (List Event → Type 0) → List Event → Type 0
Over [] P = P
Over (x ∷ s) P = ToGive x (Over s P)

pub over_both : (xs ys : List State) (P : List Event → Type 0)
    → Over (xs ++ ys) P ≡ Over xs (Over ys P)
over_both [] ys P = refl
over_both (x ∷ xs) ys P = ap (ToGive x) (over_both xs ys P)

-- ---- what an item gives, before what is given after it

abbrev pub IsScalar : EventBody → Type 0
IsScalar (event.scalar anchor tag value plain quoted style) = Unit {0}
IsScalar _ = ⊥

abbrev pub IsSequenceStart : EventBody → Type 0
IsSequenceStart (event.sequence_start anchor tag implicit style) = Unit {0}
IsSequenceStart _ = ⊥

abbrev pub IsMappingStart : EventBody → Type 0
IsMappingStart (event.mapping_start anchor tag implicit style) = Unit {0}
IsMappingStart _ = ⊥

abbrev pub IsOf : Shape → EventBody → Type 0
IsOf item.empty b = IsScalar b
IsOf (item.scalar value style) b = IsScalar b
IsOf (item.sequence style) b = IsSequenceStart b
IsOf (item.mapping style) b = IsMappingStart b

abbrev pub FitsBody : RawEventBody → RawEvent → (List Event → Type 0) → (List Event → Type 0)
    → Type 0
FitsBody (item.event b) i Y X = (es : List Event) → Y es → X (placed b i ∷ es)
FitsBody (item.version_directive major minor) i Y X = (es : List Event) → Y es → X es
FitsBody (item.tag_directive handle prefix) i Y X = (es : List Event) → Y es → X es
FitsBody (item.document implicit) i Y X = (v : Option yaml_version_directive_t) (ds : List TagDirective) (es : List Event) → Y es → X (placed (event.document_start v ds implicit) i ∷ es)
FitsBody (item.node anchor tag shape) i Y X = (b : EventBody) → IsOf shape b → (es : List Event) → Y es → X (placed b i ∷ es)

abbrev pub Fits : RawEvent → (List Event → Type 0) → (List Event → Type 0) → Type 0
Fits i Y X = FitsBody i.body i Y X

abbrev pub FitsIf : Option RawEvent → (List Event → Type 0) → (List Event → Type 0) → Type 0
FitsIf None Y X = (es : List Event) → Y es → X es
FitsIf (Some i) Y X = Fits i Y X

body_fits_on : (b : RawEventBody) (i : RawEvent) (Y X Z : List Event → Type 0) → FitsBody b i Y X
    → ((es : List Event) → X es → Z es) → FitsBody b i Y Z
body_fits_on b i Y X Z h k = grind arith

fits_on : (i : Option RawEvent) (Y X Z : List Event → Type 0) → FitsIf i Y X
    → ((es : List Event) → X es → Z es) → FitsIf i Y Z
fits_on i Y X Z h k = grind (arith, body_fits_on)

-- ---- parts of parts

abbrev head : Option (List ℕ) → Option (List ℕ) → yaml_mark_t → yaml_mark_t → Head
head anchor tag from to = record { anchor = anchor; tag = tag; start_mark = from; end_mark = to }

abbrev span : yaml_mark_t → yaml_mark_t → Span
span from to = record { start_mark = from; end_mark = to }

scalar_given : (b : EventBody) (from to : yaml_mark_t) (P : List Event → Type 0) (es : List Event)
    → IsScalar b → P es → Node P (spanning b from to ∷ es)
scalar_given (event.scalar anchor tag value plain quoted style) from to P es k h = record { part = scalar (head anchor tag from to) value plain quoted style; rest = es; same = refl; goes = h }
scalar_given _ from to P es k h = absurd k

sequence_given : (b : EventBody) (from to : yaml_mark_t) (P : List Event → Type 0) (es : List Event)
    → IsSequenceStart b → Items P es → Node P (spanning b from to ∷ es)
sequence_given (event.sequence_start anchor tag implicit style) from to P es k h =
    record { part = sequence (head anchor tag from to) implicit style h.part.0 h.part.1; rest = h.rest; same = ap (λ (xs : List Event). spanning (event.sequence_start anchor tag implicit style) from to ∷ xs) h.same; goes = h.goes }
sequence_given _ from to P es k h = absurd k

mapping_given : (b : EventBody) (from to : yaml_mark_t) (P : List Event → Type 0) (es : List Event)
    → IsMappingStart b → PairList P es → Node P (spanning b from to ∷ es)
mapping_given (event.mapping_start anchor tag implicit style) from to P es k h =
    record { part = mapping (head anchor tag from to) implicit style h.part.0 h.part.1; rest = h.rest; same = ap (λ (xs : List Event). spanning (event.mapping_start anchor tag implicit style) from to ∷ xs) h.same; goes = h.goes }
mapping_given _ from to P es k h = absurd k

item_more : (P : List Event → Type 0) (es : List Event) → Node (Items P) es → Items P es
item_more P es h = record { part = (item h.part h.goes.part.0, h.goes.part.1); rest = h.goes.rest; same = h.same ∙ ap (events h.part) h.goes.same; goes = h.goes.goes }

pair_more : (P : List Event → Type 0) (es : List Event) → Node (Node (PairList P)) es
    → PairList P es
pair_more P es h = record {
  part = (pair h.part h.goes.part h.goes.goes.part.0, h.goes.goes.part.1);
  rest = h.goes.goes.rest;
  same = h.same ∙ ap (events h.part) (h.goes.same ∙ ap (events h.goes.part) h.goes.goes.same);
  goes = h.goes.goes.goes;
}

-- a pair that is a mapping of its own
pair_alone : (P : List Event → Type 0) (es : List Event) → Node (Node (MappingEnd P)) es
    → PairList P es
pair_alone P es h = record {
  part = (pair h.part h.goes.part no_pairs, h.goes.goes.part);
  rest = h.goes.goes.rest;
  same = h.same ∙ ap (events h.part) (h.goes.same ∙ ap (events h.goes.part) h.goes.goes.same);
  goes = h.goes.goes.goes;
}

pub document_more : (v : Option yaml_version_directive_t) (ds : List TagDirective) (implicit : Bool)
    (from to : yaml_mark_t) (P : List Event → Type 0) (es : List Event)
    → Node (DocumentEnd (Documents P)) es
    → Documents P (spanning (event.document_start v ds implicit) from to ∷ es)
document_more v ds implicit from to P es h = record {
  part = (record { version = v; directives = ds; start_implicit = implicit; start_at = span from to; root = h.part; end_implicit = h.goes.part.0; end_at = h.goes.part.1 } ∷ h.goes.goes.part.0, h.goes.goes.part.1);
  rest = h.goes.goes.rest;
  same = ap (λ (xs : List Event). spanning (event.document_start v ds implicit) from to ∷ xs) (h.same ∙ ap (events h.part) (h.goes.same ∙ ap (λ (xs : List Event). at_span (event.document_end h.goes.part.0) h.goes.part.1 ∷ xs) h.goes.goes.same));
  goes = h.goes.goes.goes;
}

-- ---- taking a token

content_fits : (w : Wants) (p : Option Properties) (start end : yaml_mark_t) (b : TokenBody)
    (P : List Event → Type 0)
    → FitsIf (content_taken w p start end b).item (Over (content_taken w p start end b).above P)
    (Node P)
content_fits w None start end (token.scalar v s) P = λ b k es h. scalar_given b start end P es k h
content_fits w (Some q) start end (token.scalar v s) P = λ b k es h. scalar_given b q.from end P es k h
content_fits w None start end token.flow_sequence_start P = λ b k es h. sequence_given b start end P es k h
content_fits w (Some q) start end token.flow_sequence_start P = λ b k es h. sequence_given b q.from end P es k h
content_fits w None start end token.flow_mapping_start P = λ b k es h. mapping_given b start end P es k h
content_fits w (Some q) start end token.flow_mapping_start P = λ b k es h. mapping_given b q.from end P es k h
content_fits w None start end token.block_sequence_start P = λ b k es h. sequence_given b start end P es k h
content_fits w (Some q) start end token.block_sequence_start P = λ b k es h. sequence_given b q.from end P es k h
content_fits w None start end token.block_mapping_start P = λ b k es h. mapping_given b start end P es k h
content_fits w (Some q) start end token.block_mapping_start P = λ b k es h. mapping_given b q.from end P es k h
content_fits (Block (Some side)) None start end token.block_entry P = λ b k es h. sequence_given b start end P es k (item_more P es h)
content_fits (Block (Some side)) (Some q) start end token.block_entry P = λ b k es h. sequence_given b q.from end P es k (item_more P es h)
content_fits (Block None) q start end token.block_entry P = λ es h. h
content_fits Flow q start end token.block_entry P = λ es h. h
content_fits w q start end _ P = λ es h. h

alias_given : (name : List ℕ) (from to : yaml_mark_t) (P : List Event → Type 0) (es : List Event)
    → P es → Node P (spanning (event.alias name) from to ∷ es)
alias_given name from to P es h = record { part = alias name (span from to); rest = es; same = refl; goes = h }

pub node_fits : (w : Wants) (start end : yaml_mark_t) (b : TokenBody) (P : List Event → Type 0)
    → FitsIf (node_taken w start end b).item (Over (node_taken w start end b).above P) (Node P)
node_fits w start end (token.alias name) P = λ es h. alias_given name start end P es h
node_fits w start end (token.anchor name) P = λ es h. h
node_fits w start end (token.tag handle suffix) P = λ es h. h
node_fits w start end b P = content_fits w None start end b P

documents_fit : (from start end : yaml_mark_t) (b : TokenBody) (P : List Event → Type 0)
    → FitsIf (documents_taken from start end b).item
    (Over (documents_taken from start end b).above P) (Documents P)
documents_fit from start end (token.version_directive major minor) P = λ es h. h
documents_fit from start end (token.tag_directive handle prefix) P = λ es h. h
documents_fit from start end token.document_start P = λ v ds es h. document_more v ds false from end P es h
documents_fit from start end token.stream_end P = λ es h. record { part = ([], span start end); rest = es; same = refl; goes = h }
documents_fit from start end _ P = λ es h. h

no_more_items : (from to : yaml_mark_t) (P : List Event → Type 0) (es : List Event) → P es
    → Items P (spanning event.sequence_end from to ∷ es)
no_more_items from to P es h = record { part = (no_items, span from to); rest = es; same = refl; goes = h }

no_more_pairs : (from to : yaml_mark_t) (P : List Event → Type 0) (es : List Event) → P es
    → PairList P (spanning event.mapping_end from to ∷ es)
no_more_pairs from to P es h = record { part = (no_pairs, span from to); rest = es; same = refl; goes = h }

lone_fits : (b : Brackets) (o : yaml_mark_t) (P : List Event → Type 0) (es : List Event)
    → Node (Over (lone_below b (state.more b o ∷ [])) P) es → InBrackets b P es
lone_fits b o P es h = grind (arith, item_more, pair_more)

taking_fits_by : (x : State) (start end : yaml_mark_t) (b : TokenBody) (P : List Event → Type 0)
    → choice_at x (type_of b) ≡ Take
    → FitsIf (taken_at x (record { body = b; start_mark = start; end_mark = end })).item (Over
    (taken_at x (record { body = b; start_mark = start; end_mark = end })).above P) (ToGive x P)
taking_fits_by state.stream start end (token.stream_start encoding) P c = λ es h. record { part = (encoding, span start end); rest = es; same = refl; goes = h }
taking_fits_by state.first start end b P c = documents_fit start start end b P
taking_fits_by state.documents start end b P c = documents_fit start start end b P
taking_fits_by (state.directives from) start end b P c = documents_fit from start end b P
taking_fits_by (state.optional place before) start end b P c = node_fits (wants_of place) start end b P
taking_fits_by state.document_end start end b P c = λ es h. record { part = (false, span start end); rest = es; same = refl; goes = h }
taking_fits_by (state.entries o) start end token.block_entry P c = λ es h. item_more P es h
taking_fits_by (state.entries o) start end _ P c = λ es h. no_more_items start end P es h
taking_fits_by (state.others side) start end b P c = λ es h. item_more P es h
taking_fits_by (state.pairs o) start end token.key P c = λ es h. pair_more P es h
taking_fits_by (state.pairs o) start end _ P c = λ es h. no_more_pairs start end P es h
taking_fits_by (state.colon place) start end b P c = λ es h. h
taking_fits_by (state.with_properties w p) start end (token.anchor name) P c = λ es h. h
taking_fits_by (state.with_properties w p) start end (token.tag handle suffix) P c = λ es h. h
taking_fits_by (state.with_properties w p) start end b P c = content_fits w (Some p) start end b P
taking_fits_by (state.items brackets.Sequence o) start end token.key P c = λ b k es h. item_more P _ (mapping_given b start end (Items P) es k (pair_alone (Items P) es h))
taking_fits_by (state.items brackets.Mapping o) start end token.key P c = λ es h. pair_more P es h
taking_fits_by (state.items brackets.Sequence o) start end token.flow_sequence_end P c = λ es h. no_more_items start end P es h
taking_fits_by (state.items brackets.Mapping o) start end token.flow_sequence_end P c = λ es h. no_more_pairs start end P es h
taking_fits_by (state.items brackets.Sequence o) start end token.flow_mapping_end P c = λ es h. no_more_items start end P es h
taking_fits_by (state.items brackets.Mapping o) start end token.flow_mapping_end P c = λ es h. no_more_pairs start end P es h
taking_fits_by (state.items b o) start end b' P c =
    fits_on (node_taken Flow start end b').item _ (Node (Over (lone_below b (state.more b o ∷ [])) P)) (InBrackets b P)
    (subst (λ (Q : List Event → Type 0). FitsIf (node_taken Flow start end b').item Q (Node (Over (lone_below b (state.more b o ∷ [])) P))) (sym (over_both (node_taken Flow start end b').above (lone_below b (state.more b o ∷ [])) P))
    (node_fits Flow start end b' (Over (lone_below b (state.more b o ∷ [])) P)))
    (λ es h. lone_fits b o P es h)
taking_fits_by (state.more b o) start end token.flow_entry P c = λ es h. h
taking_fits_by (state.more brackets.Sequence o) start end _ P c = λ es h. no_more_items start end P es h
taking_fits_by (state.more brackets.Mapping o) start end _ P c = λ es h. no_more_pairs start end P es h
taking_fits_by _ start end _ P c = absurd (was_take _ c)

-- what a state gives as it takes a token is the front of what it had to give
pub taking_fits : (x : State) (t : Token) (P : List Event → Type 0) → choice_at x (type_of t.body) ≡
    Take → FitsIf (taken_at x t).item (Over (taken_at x t).above P) (ToGive x P)
taking_fits x t P c = taking_fits_by x t.start_mark t.end_mark t.body P c

-- ---- leaving a state

-- and so is what it gives as it is left
pub leaving_fits : (x : State) (k : yaml_token_type_t) (start : yaml_mark_t)
    (P : List Event → Type 0) → MayLeave x k → Fits (left_at x start) P (ToGive x P)
leaving_fits (state.optional place before) k start P l = λ b s es h. scalar_given b _ _ P es s h
leaving_fits state.document_end k start P l = λ es h. record { part = (true, span start start); rest = es; same = refl; goes = h }
leaving_fits (state.others side) k start P l = λ es h. no_more_items start start P es h
leaving_fits (state.colon place) k start P l = λ b s es h. scalar_given b start start P es s h
leaving_fits (state.with_properties w p) k start P l = λ b s es h. scalar_given b p.from p.to P es s h
leaving_fits state.pair_end k start P l = λ es h. record { part = span start start; rest = es; same = refl; goes = h }
leaving_fits state.lone k start P l = λ b s es h. scalar_given b start start P es s h
leaving_fits _ k start P l = absurd l

-- ---- where a document opens, documents are to come

pub opening_fits : (x : State) (k : yaml_token_type_t) (P : List Event → Type 0)
    → choice_at x k ≡ Open → (es : List Event) → Documents P es → ToGive x P es
opening_fits x k P c es h = subst (λ (y : State). ToGive y P es) (sym (opens_first x k c)) h

-- ---- something can be given

pub record Has (P : List Event → Type 0) : Type 0 where
  pub given : List Event
  pub is : P given

abbrev nowhere : Span
nowhere = span zero_mark zero_mark

items_have : (P : List Event → Type 0) → Has P → Has (Items P)
items_have P h = record { given = at_span event.sequence_end nowhere ∷ h.given; is = no_more_items zero_mark zero_mark P h.given h.is }

pairs_have : (P : List Event → Type 0) → Has P → Has (PairList P)
pairs_have P h = record { given = at_span event.mapping_end nowhere ∷ h.given; is = no_more_pairs zero_mark zero_mark P h.given h.is }

documents_have : (P : List Event → Type 0) → Has P → Has (Documents P)
documents_have P h = record { given = at_span event.stream_end nowhere ∷ h.given; is = record { part = ([], nowhere); rest = h.given; same = refl; goes = h.is } }

stream_has : (P : List Event → Type 0) → Has (Documents P) → Has (Stream P)
stream_has P h = record { given = at_span (event.stream_start YAML_ANY_ENCODING) nowhere ∷ h.given; is = record { part = (YAML_ANY_ENCODING, nowhere); rest = h.given; same = refl; goes = h.is } }

brackets_have : (b : Brackets) (P : List Event → Type 0) → Has P → Has (InBrackets b P)
brackets_have brackets.Sequence P h = items_have P h
brackets_have brackets.Mapping P h = pairs_have P h

pub state_has : (x : State) (P : List Event → Type 0) → Has P → Has (ToGive x P)
state_has state.stream P h = stream_has P (documents_have P h)
state_has state.first P h = documents_have P h
state_has state.documents P h = documents_have P h
state_has (state.directives from) P h = documents_have P h
state_has state.document_end P h = record { given = at_span (event.document_end true) nowhere ∷ h.given; is = record { part = (true, nowhere); rest = h.given; same = refl; goes = h.is } }
state_has (state.entries o) P h = items_have P h
state_has (state.others side) P h = items_have P h
state_has (state.pairs o) P h = pairs_have P h
state_has (state.items b o) P h = brackets_have b P h
state_has (state.more b o) P h = brackets_have b P h
state_has state.pair_end P h = record { given = at_span event.mapping_end nowhere ∷ h.given; is = record { part = nowhere; rest = h.given; same = refl; goes = h.is } }
state_has _ P h = record { given = at_span (event.alias []) nowhere ∷ h.given; is = alias_given [] zero_mark zero_mark P h.given h.is }

pub stack_has : (s : List State) (P : List Event → Type 0) → Has P → Has (Over s P)
stack_has [] P h = h
stack_has (x ∷ s) P h = state_has x (Over s P) (stack_has s P h)
