-- A state that refuses a token reports the fault of the grammar.
use Rattle.std.proofs.Common.{◌≡◌, Bool, true, false, if◌then◌else◌, ◌||◌, List, [], ◌∷◌, Option, Some, None, refl, ap, sym, subst, arith}
use Rattle.yaml_parse_laws_trees.proofs.Words.{yaml_mark_t, yaml_token_type_t, Token, type_of, Fault, Wants, Flow, Block, Brackets, Choice, Refuse, Take, Leave, Open, ParseProblem, problem_text_of, context_text_of, context_place, Site, RawEvent, State, starts_content, starts_node, wants_of, parts_documents, follows, joins, choice_at, Fed, stop, go, with_item, turn, feed, grammar_fault, parser_fault, no_end, context_of, MayLeave, leave_rule}
use Rattle.yaml_parse_laws_trees.specs.parse_grammar.parse_model.declared.yaml_token_type_t.TheVariants as kind
use Rattle.yaml_parse_model.specs.scan_types.Tokens as token
use Rattle.yaml_parse_laws_trees.specs.parse_grammar.declared.problem.ParseProblem.TheVariants as problem
use Rattle.yaml_parse_laws_trees.specs.parse_grammar.States as state
use Rattle.yaml_parse_laws_trees.specs.parse_grammar.Machine.{closes, no_node}
use Rattle.yaml_parse_laws_trees.proofs.SoundStanding.{Goes, Stood}
use Rattle.yaml_parse_laws_trees.specs.Wrong as wrong
use Rattle.yaml_parse_laws_trees.proofs.FaultsStanding.{Sign, put, open_in, bracketed, stuck, Last, nothing, asking, other, told, Plain, is_flow, Placed, Nested, told_fault}

-- where a choice refuses, that is the fault; where it leaves, the state has no collection; a document opens at the first state alone
abbrev pub Tells : Choice → State → List Sign → yaml_mark_t → Type 0
Tells (Refuse p o) x gs at = parser_fault p at (context_of o at) ≡ told_fault (told x) (put x gs) at
Tells Take x gs at = Unit {0}
Tells Leave x gs at = put x gs ≡ gs
Tells Open x gs at = x ≡ state.first

take_or : (b : Bool) (p : ParseProblem) (o : Option yaml_mark_t) (x : State) (gs : List Sign)
    (at : yaml_mark_t) → parser_fault p at (context_of o at) ≡ told_fault (told x) (put x gs) at
    → Tells (if b then Take else Refuse p o) x gs at
take_or b p o x gs at h = grind arith

first_or : (a b : Bool) (p : ParseProblem) (gs : List Sign) (at : yaml_mark_t)
    → parser_fault p at at ≡ told_fault (told state.first) (put state.first gs) at
    → Tells (if a then Take else if b then Open else Refuse p None) state.first gs at
first_or true b p gs at h = tt
first_or false true p gs at h = refl
first_or false false p gs at h = h

leave_or : (a b : Bool) (p : ParseProblem) (x : State) (gs : List Sign) (at : yaml_mark_t)
    → put x gs ≡ gs → parser_fault p at at ≡ told_fault (told x) (put x gs) at
    → Tells (if a then Leave else if b then Take else Refuse p None) x gs at
leave_or a b p x gs at e h = grind arith

take_or_leave : (b : Bool) (x : State) (gs : List Sign) (at : yaml_mark_t) → put x gs ≡ gs
    → Tells (if b then Take else Leave) x gs at
take_or_leave b x gs at e = grind arith

-- ---- the texts

no_node_told : (w : Wants) (gs : List Sign) (at : yaml_mark_t) → bracketed gs ≡ is_flow w
    → parser_fault (no_node w) at at ≡ wrong.no_node (bracketed gs) at
unfolding problem_text_of context_text_of context_place
no_node_told w gs at h = grind arith

no_document_told : (gs : List Sign) (at : yaml_mark_t) → gs ≡ []
    → parser_fault problem.NoDocumentStart at at ≡ stuck gs at
unfolding problem_text_of context_text_of context_place
no_document_told gs at h = ap (λ (z : List Sign). stuck z at) (sym h)

no_stream_told : (at : yaml_mark_t) → parser_fault problem.NoStreamStart at at ≡ grammar_fault [] at
unfolding problem_text_of context_text_of context_place
no_stream_told at = refl

no_dash_told : (o at : yaml_mark_t)
    → parser_fault problem.NoDash at o ≡ wrong.no_part token.block_sequence_start o at
unfolding problem_text_of context_text_of context_place
no_dash_told o at = refl

no_key_told : (o at : yaml_mark_t)
    → parser_fault problem.NoKey at o ≡ wrong.no_part token.block_mapping_start o at
unfolding problem_text_of context_text_of context_place
no_key_told o at = refl

no_end_told : (b : Brackets) (o at : yaml_mark_t) (gs : List Sign)
    → parser_fault (no_end b) at o ≡ stuck (put (state.more b o) gs) at
unfolding problem_text_of context_text_of context_place
no_end_told b o at gs = grind arith

inside_told : (b : Brackets) (o at : yaml_mark_t) (gs : List Sign)
    → parser_fault problem.NoFlowNode at at
    ≡ wrong.no_node (bracketed (put (state.items b o) gs)) at
unfolding problem_text_of context_text_of context_place
inside_told b o at gs = grind arith

first_told : (gs : List Sign) (at : yaml_mark_t) → gs ≡ []
    → parser_fault problem.NoBlockNode at at ≡ wrong.no_node (bracketed gs) at
unfolding problem_text_of context_text_of context_place
first_told gs at h = ap (λ (z : List Sign). wrong.no_node (bracketed z) at) (sym h)

-- ---- each state

pub tells : (x : State) (k : yaml_token_type_t) (gs : List Sign) (at : yaml_mark_t) → Placed x gs
    → Tells (choice_at x k) x gs at
tells state.stream kind.YAML_STREAM_START_TOKEN gs at h = tt
tells state.stream _ gs at h = no_stream_told at
tells state.first k gs at h = first_or (parts_documents k) (starts_node (Block None) k) problem.NoBlockNode gs at (first_told gs at h)
tells state.documents kind.YAML_DOCUMENT_END_TOKEN gs at h = tt
tells state.documents k gs at h = take_or (parts_documents k) problem.NoDocumentStart None state.documents gs at (no_document_told gs at h)
tells (state.directives from) kind.YAML_STREAM_END_TOKEN gs at h = no_document_told gs at h
tells (state.directives from) k gs at h = take_or (parts_documents k) problem.NoDocumentStart None (state.directives from) gs at (no_document_told gs at h)
tells (state.optional place before) k gs at h =
    leave_or (follows place k) (starts_node (wants_of place) k) (no_node (wants_of place)) (state.optional place before) gs at refl (no_node_told (wants_of place) gs at h)
tells state.document_end kind.YAML_DOCUMENT_END_TOKEN gs at h = tt
tells (state.entries o) kind.YAML_BLOCK_ENTRY_TOKEN gs at h = tt
tells (state.entries o) kind.YAML_BLOCK_END_TOKEN gs at h = tt
tells (state.entries o) _ gs at h = no_dash_told o at
tells (state.others side) kind.YAML_BLOCK_ENTRY_TOKEN gs at h = tt
tells (state.pairs o) kind.YAML_KEY_TOKEN gs at h = tt
tells (state.pairs o) kind.YAML_BLOCK_END_TOKEN gs at h = tt
tells (state.pairs o) _ gs at h = no_key_told o at
tells (state.colon place) kind.YAML_VALUE_TOKEN gs at h = tt
tells (state.with_properties w p) k gs at h = take_or_leave (joins p k || starts_content w k) (state.with_properties w p) gs at refl
tells (state.items b o) kind.YAML_KEY_TOKEN gs at h = tt
tells (state.items b o) k gs at h = take_or (closes b k || starts_node Flow k) problem.NoFlowNode None (state.items b o) gs at (inside_told b o at gs)
tells (state.more b o) kind.YAML_FLOW_ENTRY_TOKEN gs at h = tt
tells (state.more b o) k gs at h = take_or (closes b k) (no_end b) (Some o) (state.more b o) gs at (no_end_told b o at gs)
tells state.pair_end k gs at h = refl
tells state.lone k gs at h = refl
tells _ _ gs at h = refl

-- ---- a stack

-- a stack that refuses a token does it with that fault
abbrev pub StopsWith : Fault → Fed → Type 0
StopsWith e (stop is f) = f ≡ e
StopsWith e (go is s) = Unit {0}

stops_with : (e : Fault) (i : RawEvent) (fed : Fed) → StopsWith e fed
    → StopsWith e (with_item i fed)
stops_with e i fed h = grind arith

plain_turn : (c : Choice) (x : State) (t : Token) (s : List State) (fed : Fed)
    → Tells c x (open_in s) t.start_mark → told x ≡ other
    → StopsWith (stuck (open_in s) t.start_mark) fed
    → StopsWith (stuck (open_in (x ∷ s)) t.start_mark) (turn c x t s fed)
plain_turn c x t s fed h e k = grind (arith, told_fault, stuck, stops_with)

pub plain_stops : (s : List State) (t : Token) → Plain s → Nested s
    → StopsWith (stuck (open_in s) t.start_mark) (feed s t)
unfolding feed
plain_stops [] t p n = tt
plain_stops (x ∷ s) t p n = grind (arith, plain_turn, tells, plain_stops s t p.1 n.1)

-- ---- a stack of which any state may be on top

-- where a node is left out, nothing below refuses the token
leaves_well : (x : State) (k : yaml_token_type_t) (goes : Type 0) → MayLeave x k
    → ((place : Site) (before : yaml_mark_t) → x ≡ state.optional place before → follows place k
    ≡ true → goes) → (told x ≡ asking → goes) × (told x ≡ nothing → ⊥)
leaves_well x k goes l h = grind arith

fitting : (x : State) (s : List State) (t : Token) → Stood x s
    → (place : Site) (before : yaml_mark_t) → x ≡ state.optional place before
    → follows place (type_of t.body) ≡ true → Goes (feed s t)
fitting x s t h place before e f = let k : Stood (state.optional place before) s = subst (λ (y : State). Stood y s) e h in k.0 t f

going_stops : (e : Fault) (fed : Fed) → Goes fed → StopsWith e fed
going_stops e fed h = grind arith

passed_on : (l : Last) (gs : List Sign) (at : yaml_mark_t) (fed : Fed) → (l ≡ asking → Goes fed)
    → (l ≡ nothing → ⊥) → StopsWith (stuck gs at) fed → StopsWith (told_fault l gs at) fed
passed_on l gs at fed a b h = grind (arith, going_stops, told_fault)

top_turn : (c : Choice) (x : State) (t : Token) (s : List State) (fed : Fed)
    → Tells c x (open_in s) t.start_mark
    → (c ≡ Leave → (told x ≡ asking → Goes fed) × (told x ≡ nothing → ⊥))
    → StopsWith (stuck (open_in s) t.start_mark) fed
    → StopsWith (told_fault (told x) (open_in (x ∷ s)) t.start_mark) (turn c x t s fed)
top_turn c x t s fed h w k = grind (arith, told_fault, stops_with, passed_on)

-- A stack that refuses a token says what its topmost state does.
pub top_stops : (x : State) (s : List State) (t : Token) → Plain s → Nested (x ∷ s) → Stood x s
    → StopsWith (told_fault (told x) (open_in (x ∷ s)) t.start_mark) (feed (x ∷ s) t)
unfolding feed
top_stops x s t p n a =
    top_turn (choice_at x (type_of t.body)) x t s (feed s t) (tells x (type_of t.body) (open_in s) t.start_mark n.0)
    (λ e. leaves_well x (type_of t.body) (Goes (feed s t)) (leave_rule x (type_of t.body) e) (fitting x s t a)) (plain_stops s t p n.1)
