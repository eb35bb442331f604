-- The properties that a state holds are the last tokens.
use Rattle.std.proofs.Common.{◌≡◌, ℕ, true, false, ◌||◌, List, [], ◌∷◌, ◌++◌, Option, Some, None, refl, arith, sym, subst}
use Rattle.yaml_parse_laws_trees.proofs.Words.{append_assoc, yaml_mark_t, Token, TokenBody, type_of, Fault, Wants, Flow, Block, Brackets, Take, RawEvent, Properties, Tag, Shape, item_at, State, joins, starts_content, choice_at, documents_taken, content_taken, node_taken, with_properties_taken, lone_below, taken_at, Directives, settle, NodeTag, ended_tag, tag_fault, tag_behind, tag_before_anchor, unless_joined, take_rule, false≢true, true≢false}
use Rattle.yaml_parse_model.specs.scan_types.Tokens as token
use Rattle.yaml_parse_laws_trees.specs.parse_grammar.declared.name.Brackets.TheVariants as brackets
use Rattle.yaml_parse_laws_trees.specs.parse_grammar.Items as item
use Rattle.yaml_parse_laws_trees.specs.parse_grammar.States as state
use Rattle.yaml_parse_laws_trees.proofs.FaultsStanding.{asking, last_of, last_in, told, Plain}
use Rattle.yaml_parse_laws_trees.proofs.Settling.{Done, then_read, by_fault, tag_in, resolved_done, prefix_known, Agree}

-- ---- the tag among the last tokens

-- a tag that an anchor may still join
abbrev waiting : NodeTag → TokenBody → Option NodeTag
waiting n (token.anchor name) = None
waiting n _ = Some n

abbrev pub tok : TokenBody → yaml_mark_t → yaml_mark_t → Token
tok b start end = record { body = b; start_mark = start; end_mark = end }

abbrev pub PropsOf : Option (List ℕ) → Option Tag → yaml_mark_t → List Token → Type 0
PropsOf (Some a) None from past = ((b : TokenBody) → ended_tag past b ≡ None)
    × ((handle suffix : List ℕ) (start end : yaml_mark_t) (b : TokenBody) → ended_tag (tok (token.tag handle suffix) start end ∷ past) b ≡ Some (record { handle = handle; tag = start; node = from }))
PropsOf None (Some t) from past = ((b : TokenBody) → ended_tag past b ≡ waiting (record { handle = t.handle; tag = t.mark; node = from }) b)
    × ((name : List ℕ) (start end : yaml_mark_t) (b : TokenBody) → ended_tag (tok (token.anchor name) start end ∷ past) b ≡ Some (record { handle = t.handle; tag = t.mark; node = from }))
PropsOf (Some a) (Some t) from past = (b : TokenBody) → ended_tag past b ≡ Some (record { handle = t.handle; tag = t.mark; node = from })
PropsOf None None from past = ⊥

-- of the state on top
abbrev pub PropsTop : List State → List Token → Type 0
PropsTop (state.with_properties w p ∷ s) past = PropsOf p.anchor p.tag p.from past
PropsTop _ past = Unit {0}

pub ended : (anchor : Option (List ℕ)) (tag : Option Tag) (from to : yaml_mark_t)
    (past : List Token) (b : TokenBody) → PropsOf anchor tag from past
    → joins (record { anchor = anchor; tag = tag; from = from; to = to }) (type_of b) ≡ false
    → ended_tag past b ≡ tag_in (record { anchor = anchor; tag = tag; from = from; to = to })
ended (Some a) None from to past b h j = h.0 b
ended None (Some t) from to past (token.anchor name) h j = absurd (true≢false j)
ended None (Some t) from to past b h j = h.0 b
ended (Some a) (Some t) from to past b h j = h b
ended None None from to past b h j = absurd h

pub joined : (anchor : Option (List ℕ)) (tag : Option Tag) (from to : yaml_mark_t)
    (past : List Token) (b : TokenBody) → PropsOf anchor tag from past
    → joins (record { anchor = anchor; tag = tag; from = from; to = to }) (type_of b) ≡ true
    → ended_tag past b ≡ None
joined (Some a) None from to past b h j = h.0 b
joined None (Some t) from to past (token.anchor name) h j = h.0 (token.anchor name)
joined None (Some t) from to past (token.tag handle suffix) h j = absurd (false≢true j)
joined None (Some t) from to past _ h j = absurd (false≢true j)
joined (Some a) (Some t) from to past (token.anchor name) h j = absurd (false≢true j)
joined (Some a) (Some t) from to past (token.tag handle suffix) h j = absurd (false≢true j)
joined (Some a) (Some t) from to past _ h j = absurd (false≢true j)
joined None None from to past b h j = absurd h

-- ---- a property is taken

no_tag_before : (past : List Token) → last_in past ≡ asking → tag_before_anchor past ≡ None
no_tag_before past e = grind (arith, last_of)

waits : (handle : List ℕ) (at : yaml_mark_t) (b : TokenBody)
    → unless_joined handle at b ≡ waiting (record { handle = handle; tag = at; node = at }) b
waits handle at b = grind arith

no_anchor_before : (handle : List ℕ) (at : yaml_mark_t) (past : List Token) (b : TokenBody)
    → last_in past ≡ asking → tag_behind handle at past b ≡ unless_joined handle at b
no_anchor_before handle at past b e = grind (arith, last_of)

plain_props : (s : List State) (past : List Token) → Plain s → PropsTop s past
plain_props s past h = grind arith

content_props : (w : Wants) (p : Option Properties) (start end : yaml_mark_t) (b : TokenBody)
    (s : List State) (past : List Token) → Plain s
    → PropsTop ((content_taken w p start end b).above ++ s) past
content_props w p start end b s past h = grind (arith, plain_props)

pub node_props : (w : Wants) (start end : yaml_mark_t) (b : TokenBody) (s : List State)
    (past : List Token) → Plain s → last_in past ≡ asking
    → PropsTop ((node_taken w start end b).above ++ s) (tok b start end ∷ past)
node_props w start end b s past h e = grind (arith, plain_props, no_tag_before, no_anchor_before, waits, content_props)

with_properties_props : (w : Wants) (anchor : Option (List ℕ)) (tag : Option Tag)
    (from to start end : yaml_mark_t) (b : TokenBody) (s : List State) (past : List Token)
    → (joins (record { anchor = anchor; tag = tag; from = from; to = to }) (type_of b)
    || starts_content w (type_of b)) ≡ true → Plain s → PropsOf anchor tag from past
    → PropsTop ((with_properties_taken w
    (record { anchor = anchor; tag = tag; from = from; to = to }) start end b).above ++ s)
    (tok b start end ∷ past)
with_properties_props w None None from to start end b s past c h k = absurd k
with_properties_props w None (Some t) from to start end (token.anchor name) s past c h k = k.1 name start end
with_properties_props w (Some a) tag from to start end (token.anchor name) s past c h k = absurd (false≢true c)
with_properties_props w (Some a) None from to start end (token.tag handle suffix) s past c h k = k.1 handle suffix start end
with_properties_props w anchor (Some t) from to start end (token.tag handle suffix) s past c h k = absurd (false≢true c)
with_properties_props w anchor tag from to start end b s past c h k =
    content_props w (Some (record { anchor = anchor; tag = tag; from = from; to = to })) start end b s (tok b start end ∷ past) h

lone_plain : (bs : Brackets) (o : yaml_mark_t) (s : List State) → Plain s
    → Plain (lone_below bs (state.more bs o ∷ []) ++ s)
lone_plain bs o s h = grind arith

documents_props : (from start end : yaml_mark_t) (b : TokenBody) (s : List State)
    (past : List Token) → Plain s → PropsTop ((documents_taken from start end b).above ++ s) past
documents_props from start end b s past h = grind (arith, plain_props)

taken_props_by : (x : State) (start end : yaml_mark_t) (b : TokenBody) (s : List State)
    (past : List Token) → choice_at x (type_of b) ≡ Take → Plain s
    → (told x ≡ asking → last_in past ≡ asking) → PropsTop (x ∷ s) past
    → PropsTop ((taken_at x (tok b start end)).above ++ s) ((tok b start end) ∷ past)
taken_props_by state.stream start end (token.stream_start e') s past c h e k = tt
taken_props_by state.stream start end _ s past c h e k = tt
taken_props_by state.first start end b s past c h e k = documents_props start start end b s ((tok b start end) ∷ past) h
taken_props_by state.documents start end b s past c h e k = documents_props start start end b s ((tok b start end) ∷ past) h
taken_props_by (state.directives from) start end b s past c h e k = documents_props from start end b s ((tok b start end) ∷ past) h
taken_props_by (state.optional place before) start end b s past c h e k = node_props _ start end b s past h (e refl)
taken_props_by state.document_end start end b s past c h e k = plain_props s ((tok b start end) ∷ past) h
taken_props_by (state.entries o) start end token.block_entry s past c h e k = tt
taken_props_by (state.entries o) start end _ s past c h e k = plain_props s _ h
taken_props_by (state.pairs o) start end token.key s past c h e k = tt
taken_props_by (state.pairs o) start end _ s past c h e k = plain_props s _ h
taken_props_by (state.with_properties w p) start end b s past c h e k =
    with_properties_props w p.anchor p.tag p.from p.to start end b s past (take_rule (state.with_properties w p) (type_of b) c) h k
taken_props_by (state.items brackets.Sequence o) start end token.key s past c h e k = tt
taken_props_by (state.items brackets.Mapping o) start end token.key s past c h e k = tt
taken_props_by (state.items bs o) start end token.flow_sequence_end s past c h e k = plain_props s (tok token.flow_sequence_end start end ∷ past) h
taken_props_by (state.items bs o) start end token.flow_mapping_end s past c h e k = plain_props s (tok token.flow_mapping_end start end ∷ past) h
taken_props_by (state.items bs o) start end b s past c h e k =
    subst (λ (z : List State). PropsTop z (tok b start end ∷ past)) (sym (append_assoc (node_taken Flow start end b).above (lone_below bs (state.more bs o ∷ [])) s))
    (node_props Flow start end b (lone_below bs (state.more bs o ∷ []) ++ s) past (lone_plain bs o s h) (e refl))
taken_props_by (state.more bs o) start end token.flow_entry s past c h e k = tt
taken_props_by (state.more bs o) start end _ s past c h e k = plain_props s _ h
taken_props_by _ start end b s past c h e k = tt

pub taken_props : (x : State) (t : Token) (s : List State) (past : List Token) → choice_at x
    (type_of t.body) ≡ Take → Plain s → (told x ≡ asking → last_in past ≡ asking) → PropsTop (x ∷ s)
    past → PropsTop ((taken_at x t).above ++ s) (t ∷ past)
taken_props x t s past c h e k = taken_props_by x t.start_mark t.end_mark t.body s past c h e k

-- ---- reading a node after them

pub props_read : (anchor : Option (List ℕ)) (tag : Option Tag) (from to : yaml_mark_t)
    (shape : Shape) (end : yaml_mark_t) (ts : List Token) (ds : Directives) (k : Directives → Done)
    → Agree ts ds
    → then_read (settle (item_at (item.node anchor tag shape) from end) ds) k
    ≡ by_fault (tag_fault (tag_in (record { anchor = anchor; tag = tag; from = from; to = to })) ts)
    ds k
props_read anchor tag from to shape end ts ds k a = grind (arith, by_fault, resolved_done, prefix_known)

-- an item has that fault, or none
abbrev pub HasFault : Option RawEvent → Option Fault → Directives → Type 0
HasFault None f ds = ⊥
HasFault (Some i) f ds = (k : Directives → Done) → then_read (settle i ds) k ≡ by_fault f ds k

pub content_read : (w : Wants) (p : Properties) (start end : yaml_mark_t) (b : TokenBody)
    (ts : List Token) (ds : Directives) → starts_content w (type_of b) ≡ true → Agree ts ds
    → HasFault (content_taken w (Some p) start end b).item (tag_fault (tag_in p) ts) ds
content_read w p start end (token.scalar value style) ts ds c a = λ k. props_read p.anchor p.tag p.from p.to (item.scalar value style) end ts ds k a
content_read w p start end token.flow_sequence_start ts ds c a = λ k. props_read p.anchor p.tag p.from p.to _ end ts ds k a
content_read w p start end token.flow_mapping_start ts ds c a = λ k. props_read p.anchor p.tag p.from p.to _ end ts ds k a
content_read (Block side) p start end token.block_sequence_start ts ds c a = λ k. props_read p.anchor p.tag p.from p.to _ end ts ds k a
content_read (Block side) p start end token.block_mapping_start ts ds c a = λ k. props_read p.anchor p.tag p.from p.to _ end ts ds k a
content_read (Block (Some side)) p start end token.block_entry ts ds c a = λ k. props_read p.anchor p.tag p.from p.to _ end ts ds k a
content_read Flow p start end token.block_sequence_start ts ds c a = absurd (false≢true c)
content_read Flow p start end token.block_mapping_start ts ds c a = absurd (false≢true c)
content_read Flow p start end token.block_entry ts ds c a = absurd (false≢true c)
content_read (Block None) p start end token.block_entry ts ds c a = absurd (false≢true c)
content_read w p start end _ ts ds c a = absurd (false≢true c)
