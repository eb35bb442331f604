-- At the bottom of a stack is one state that awaits documents, and none such above it.
use Rattle.std.proofs.Common.{◌≡◌, ◌≢◌, Bool, true, false, not, ◌&&◌, ◌||◌, List, [], ◌∷◌, ◌++◌, refl, sym, ap, ◌∙◌, arith}
use Rattle.std.proofs.lemmas.Bool.{true≢false}
use Rattle.yaml_parse_grammar.specs.parse_model.declared.yaml_token_type_t.{yaml_token_type_t}
use Rattle.yaml_parse_laws_trees.proofs.WindowsWords.{Token, Open, Directives, no_directives, State, choice_at, taken_at}
use Rattle.yaml_parse_grammar.specs.States as state
use Rattle.yaml_parse_grammar.specs.Stacks.{IsInner}
use Rattle.yaml_parse_grammar.proofs.Rules.{opens_first}
use Rattle.yaml_parse_grammar.proofs.Standing.{inside_taken}
use Rattle.yaml_parse_grammar.proofs.Throughout.{AllAre}

-- it awaits documents, or the stream's start
abbrev pub is_ground : State → Bool
is_ground state.stream = true
is_ground state.first = true
is_ground state.documents = true
is_ground (state.directives from) = true
is_ground _ = false

-- states of a document are above its end, and that above what awaits documents
abbrev pub Within : List State → Type 0
Within [] = ⊥
Within (state.stream ∷ s) = ⊥
Within (state.first ∷ s) = ⊥
Within (state.documents ∷ s) = ⊥
Within (state.directives from ∷ s) = ⊥
Within (state.document_end ∷ s) = s ≡ state.documents ∷ []
Within (_ ∷ s) = Within s

-- A stack with directives that were noted: after a document none are.
abbrev pub Stands : List State → Directives → Type 0
Stands [] ds = ⊥
Stands (state.stream ∷ s) ds = (s ≡ []) × (ds ≡ no_directives)
Stands (state.first ∷ s) ds = (s ≡ []) × (ds ≡ no_directives)
Stands (state.documents ∷ s) ds = (s ≡ []) × (ds ≡ no_directives)
Stands (state.directives from ∷ s) ds = s ≡ []
Stands (x ∷ s) ds = Within (x ∷ s)

-- it ends a document
abbrev pub is_last : State → Bool
is_last state.document_end = true
is_last _ = false

abbrev pub inner : List State → Bool
inner [] = true
inner (x ∷ xs) = not (is_ground x || is_last x) && inner xs

pub inner_on : (xs s : List State) → inner xs ≡ true → Within s → Within (xs ++ s)
inner_on [] s h g = g
inner_on (state.stream ∷ xs) s h g = absurd (true≢false (sym h))
inner_on (state.first ∷ xs) s h g = absurd (true≢false (sym h))
inner_on (state.documents ∷ xs) s h g = absurd (true≢false (sym h))
inner_on (state.directives from ∷ xs) s h g = absurd (true≢false (sym h))
inner_on (state.document_end ∷ xs) s h g = absurd (true≢false (sym h))
inner_on (x ∷ xs) s h g = inner_on xs s h g

-- ---- what is above from then on

inner_of : (xs : List State) → AllAre IsInner xs → inner xs ≡ true
inner_of [] h = refl
inner_of (x ∷ xs) h = rw (off x h.0, inner_of xs h.1) refl
  where
    off : (x : State) → IsInner x → not (is_ground x || is_last x) ≡ true
    off state.stream h = absurd h
    off state.first h = absurd h
    off state.documents h = absurd h
    off (state.directives from) h = absurd h
    off state.document_end h = absurd h
    off _ h = refl

-- a state that isn't at the bottom puts such states above those below it
pub taken_inner : (x : State) (t : Token) → is_ground x ≡ false → inner (taken_at x t).above ≡ true
taken_inner x t h = grind (arith, true≢false, inner_of, inside_taken)

-- a document opens at the bottom alone
pub not_open : (x : State) (k : yaml_token_type_t) → is_ground x ≡ false → choice_at x k ≢ Open
not_open x k h e = true≢false (ap is_ground (sym (opens_first x k e)) ∙ h)
