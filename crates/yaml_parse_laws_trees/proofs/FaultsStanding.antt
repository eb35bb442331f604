-- What a stack of states knows of the tokens that were read: which collections are open, and which token was last.
use Rattle.std.proofs.Common.{◌≡◌, Bool, true, false, if◌then◌else◌, List, [], ◌∷◌, arith}
use Rattle.yaml_parse_laws_trees.proofs.Words.{yaml_mark_t, Token, TokenBody, Fault, Wants, Flow, Block, State, opening, wants_of, opened, grammar_fault, opens, closes, surrounding, opens_brackets, in_brackets, asks_for_node, no_node, no_document, no_part, not_going_on}
use Rattle.yaml_parse_model.specs.scan_types.Tokens as token
use Rattle.yaml_parse_laws_trees.specs.parse_grammar.States as state

-- ---- open collections

-- what opened a collection, and where
pub record Sign : Type 0 where
  pub body : TokenBody
  pub start : yaml_mark_t

abbrev pub sign_of : Token → Sign
sign_of t = record { body = t.body; start = t.start_mark }

abbrev pub signs_of : List Token → List Sign
signs_of [] = []
signs_of (t ∷ ts) = sign_of t ∷ signs_of ts

abbrev pub sign : TokenBody → yaml_mark_t → Sign
sign body start = record { body = body; start = start }

abbrev pub around : List Sign → List Sign
around [] = []
around (g ∷ gs) = gs

abbrev pub signs_behind : TokenBody → yaml_mark_t → List Sign → List Sign
signs_behind body start gs = if opens body then sign body start ∷ gs else if closes body then around gs else gs

around_signs : (ts : List Token) → signs_of (surrounding ts) ≡ around (signs_of ts)
around_signs ts = grind arith

either : (a b : Bool) (t : Token) (ts : List Token)
    → signs_of (if a then t ∷ ts else if b then surrounding ts else ts)
    ≡ (if a then sign_of t ∷ signs_of ts else if b then around (signs_of ts) else signs_of ts)
either a b t ts = grind (arith, around_signs)

pub signs_on : (t : Token) (past : List Token)
    → signs_of (opened (t ∷ past)) ≡ signs_behind t.body t.start_mark (signs_of (opened past))
signs_on t past = either (opens t.body) (closes t.body) t (opened past)

-- the same tests of signs
abbrev pub bracketed : List Sign → Bool
bracketed [] = false
bracketed (g ∷ gs) = opens_brackets g.body

abbrev pub stuck : List Sign → yaml_mark_t → Fault
stuck [] at = no_document at
stuck (g ∷ gs) at = no_part g.body g.start at

pub bracketed_signs : (ts : List Token) → in_brackets ts ≡ bracketed (signs_of ts)
bracketed_signs ts = grind arith

pub stuck_signs : (ts : List Token) (at : yaml_mark_t) → not_going_on ts at ≡ stuck (signs_of ts) at
stuck_signs ts at = grind arith

-- the collection of a state, over those of the states below
abbrev pub put : State → List Sign → List Sign
put (state.entries o) gs = sign token.block_sequence_start o ∷ gs
put (state.pairs o) gs = sign token.block_mapping_start o ∷ gs
put (state.items b o) gs = sign (opening b) o ∷ gs
put (state.more b o) gs = sign (opening b) o ∷ gs
put _ gs = gs

abbrev pub open_in : List State → List Sign
open_in [] = []
open_in (x ∷ s) = put x (open_in s)

-- ---- the last token

pub data Last : Type 0 where
  -- none was read
  nothing : Last
  -- a node must come, or be left out
  asking : Last
  property : Last
  directive : Last
  other : Last

abbrev pub last_of : TokenBody → Last
last_of (token.stream_start encoding) = asking
last_of token.document_start = asking
last_of token.block_entry = asking
last_of token.key = asking
last_of token.value = asking
last_of token.flow_entry = asking
last_of token.flow_sequence_start = asking
last_of token.flow_mapping_start = asking
last_of (token.version_directive major minor) = directive
last_of (token.tag_directive handle prefix) = directive
last_of (token.anchor name) = property
last_of (token.tag handle suffix) = property
last_of _ = other

abbrev pub last_in : List Token → Last
last_in [] = nothing
last_in (t ∷ past) = last_of t.body

-- what a state on top says of the last token
abbrev pub told : State → Last
told state.stream = nothing
told state.first = asking
told (state.optional place before) = asking
told (state.items b o) = asking
told (state.with_properties w p) = property
told (state.directives from) = directive
told _ = other

-- states that may be below others
abbrev pub Plain : List State → Type 0
Plain [] = Unit {0}
Plain (x ∷ s) = (told x ≡ other) × Plain s

abbrev pub Topped : Last → List State → Type 0
Topped l [] = Unit {0}
Topped l (x ∷ s) = (told x ≡ l) × Plain s

pub plain_topped : (s : List State) → Plain s → Topped other s
plain_topped s h = grind arith

-- ---- flow nodes are in brackets, others don't

abbrev pub is_flow : Wants → Bool
is_flow Flow = true
is_flow (Block side) = false

abbrev pub Placed : State → List Sign → Type 0
Placed (state.optional place before) gs = bracketed gs ≡ is_flow (wants_of place)
Placed (state.colon place) gs = bracketed gs ≡ is_flow (wants_of place)
Placed (state.others side) gs = bracketed gs ≡ false
Placed (state.with_properties w p) gs = bracketed gs ≡ is_flow w
Placed state.first gs = gs ≡ []
Placed state.documents gs = gs ≡ []
Placed (state.directives from) gs = gs ≡ []
Placed _ gs = Unit {0}

abbrev pub Nested : List State → Type 0
Nested [] = Unit {0}
Nested (x ∷ s) = Placed x (open_in s) × Nested s

-- ---- the fault that a state on top reports

abbrev pub told_fault : Last → List Sign → yaml_mark_t → Fault
told_fault nothing gs at = grammar_fault [] at
told_fault asking gs at = no_node (bracketed gs) at
told_fault _ gs at = stuck gs at

asked : (b : TokenBody) (x y : Fault) (gs : List Sign) (at : yaml_mark_t)
    → x ≡ no_node (bracketed gs) at → y ≡ stuck gs at
    → (if asks_for_node b then x else y) ≡ told_fault (last_of b) gs at
asked (token.stream_start e) x y gs at p q = p
asked token.document_start x y gs at p q = p
asked token.block_entry x y gs at p q = p
asked token.key x y gs at p q = p
asked token.value x y gs at p q = p
asked token.flow_entry x y gs at p q = p
asked token.flow_sequence_start x y gs at p q = p
asked token.flow_mapping_start x y gs at p q = p
asked (token.version_directive major minor) x y gs at p q = q
asked (token.tag_directive handle prefix) x y gs at p q = q
asked (token.anchor name) x y gs at p q = q
asked (token.tag handle suffix) x y gs at p q = q
asked _ x y gs at p q = q

-- it is the fault of the grammar
pub grammar_told : (past : List Token) (at : yaml_mark_t)
    → grammar_fault past at ≡ told_fault (last_in past) (signs_of (opened past)) at
grammar_told past at = grind (arith, asked, bracketed_signs, stuck_signs)
