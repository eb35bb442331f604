-- After one token: what the stack knows of the tokens.
use Rattle.std.proofs.Common.{◌≡◌, List, [], ◌∷◌, ◌++◌, Option, None, refl, sym, subst, ◌∙◌, arith}
use Rattle.yaml_parse_laws_trees.proofs.Words.{yaml_mark_t, Token, TokenBody, type_of, Block, Root, Choice, Take, RawEvent, State, IsInner, IsStack, choice_at, taken_at, Fed, stop, go, with_item, given_by, turn, feed}
use Rattle.yaml_parse_model.specs.scan_types.Tokens as token
use Rattle.yaml_parse_laws_trees.specs.parse_grammar.States as state
use Rattle.yaml_parse_laws_trees.proofs.FaultsStanding.{Sign, signs_behind, open_in, asking, directive, other, last_of, last_in, told, Plain, Nested}
use Rattle.yaml_parse_laws_trees.proofs.Refusing.{Tells, tells}
use Rattle.yaml_parse_laws_trees.proofs.Keeping.{Kept, KeptInside, Ground, inside_kept}
use Rattle.yaml_parse_laws_trees.proofs.Stepping.{Within, at_end, deeper, within, not_first}
use Rattle.yaml_parse_laws_trees.proofs.Properties.{PropsTop, node_props, taken_props, tok}
use Rattle.yaml_parse_grammar.proofs.Standing.{inside_stack}

-- ---- the states

pub record Stacked (b : TokenBody) (at : yaml_mark_t) (gs : List Sign) (s : List State) : Type 0 where
  pub kept : Kept b at gs s
  pub stack : IsStack s

abbrev pub FedKept : TokenBody → yaml_mark_t → List Sign → Fed → Type 0
FedKept b at gs (stop is e) = Unit {0}
FedKept b at gs (go is s) = Stacked b at gs s

fed_with : (b : TokenBody) (at : yaml_mark_t) (gs : List Sign) (i : RawEvent) (fed : Fed)
    → FedKept b at gs fed → FedKept b at gs (with_item i fed)
fed_with b at gs i fed h = grind arith

stacked : (b : TokenBody) (at : yaml_mark_t) (gs : List Sign) (s : List State)
    → KeptInside b at gs s → Stacked b at gs s
stacked b at gs s k = record { kept = k.kept; stack = inside_stack s k.inside }

opened_ground : Ground (Block None) (state.document_end ∷ state.documents ∷ [])
opened_ground = record { plain = (refl, (refl, tt)); nested = (tt, (refl, tt)); inside = refl; flow = refl }

stream_kept : (b : TokenBody) (start end : yaml_mark_t)
    → FedKept b start [] (feed (state.stream ∷ []) (tok b start end))
unfolding feed
stream_kept b start end = grind arith

begun : (start end before : yaml_mark_t)
    → Stacked token.document_start start []
    (state.optional Root before ∷ state.document_end ∷ state.documents ∷ [])
begun start end before = record { kept = record { opened = refl; topped = (refl, (refl, (refl, tt))); nested = (refl, (tt, (refl, tt))) }; stack = (tt, refl) }

directed : (b : TokenBody) (start from : yaml_mark_t) → last_of b ≡ directive
    → signs_behind b start [] ≡ [] → Stacked b start [] (state.directives from ∷ [])
directed b start from l o = record { kept = record { opened = sym o; topped = (sym l, tt); nested = (refl, tt) }; stack = refl }

finished : (start : yaml_mark_t) → Stacked token.stream_end start [] []
finished start = record { kept = record { opened = refl; topped = tt; nested = tt }; stack = tt }

first_kept : (b : TokenBody) (start end : yaml_mark_t)
    → FedKept b start [] (feed (state.first ∷ []) (tok b start end))
unfolding feed
first_kept b start end = grind (arith, directed, begun, finished, stacked, opened_ground)

between : (start : yaml_mark_t) → Stacked token.document_end start [] (state.documents ∷ [])
between start = record { kept = record { opened = refl; topped = (refl, tt); nested = (refl, tt) }; stack = refl }

documents_kept : (b : TokenBody) (start end : yaml_mark_t)
    → FedKept b start [] (feed (state.documents ∷ []) (tok b start end))
unfolding feed
documents_kept b start end = grind (arith, directed, begun, between, finished)

directives_kept : (b : TokenBody) (from start end : yaml_mark_t)
    → FedKept b start [] (feed (state.directives from ∷ []) (tok b start end))
unfolding feed
directives_kept b from start end = grind (arith, directed, begun)

end_kept : (b : TokenBody) (start end : yaml_mark_t)
    → FedKept b start [] (feed (state.document_end ∷ state.documents ∷ []) (tok b start end))
unfolding feed
end_kept b start end = grind (arith, between, fed_with, documents_kept)

given_kept : (b : TokenBody) (at : yaml_mark_t) (gs : List Sign) (i : Option RawEvent)
    (above s : List State) → Stacked b at gs (above ++ s)
    → FedKept b at gs (given_by (record { item = i; above = above }) s)
given_kept b at gs i above s h = grind arith

inside_turn : (c : Choice) (x : State) (t : Token) (s : List State) (fed : Fed)
    → choice_at x (type_of t.body) ≡ c → Tells c x (open_in s) t.start_mark → IsInner x
    → (choice_at x (type_of t.body) ≡ Take
    → KeptInside t.body t.start_mark (open_in (x ∷ s)) ((taken_at x t).above ++ s))
    → FedKept t.body t.start_mark (open_in s) fed
    → FedKept t.body t.start_mark (open_in (x ∷ s)) (turn c x t s fed)
inside_turn c x t s fed e h i k r = grind (arith, given_kept, stacked, fed_with, not_first)

at_end_kept : (x : State) (s : List State) (t : Token) → x ≡ state.document_end
    → s ≡ state.documents ∷ [] → FedKept t.body t.start_mark (open_in (x ∷ s)) (feed (x ∷ s) t)
at_end_kept x s t p q =
    subst (λ (y : State). FedKept t.body t.start_mark (open_in (y ∷ s)) (feed (y ∷ s) t)) (sym p)
    (subst (λ (z : List State). FedKept t.body t.start_mark (open_in (state.document_end ∷ z)) (feed (state.document_end ∷ z) t)) (sym q) (end_kept t.body t.start_mark t.end_mark))

inside_fed : (x : State) (s : List State) (t : Token) → Within x s → Plain s → Nested (x ∷ s)
    → FedKept t.body t.start_mark (open_in (x ∷ s)) (feed (x ∷ s) t)
unfolding feed
inside_fed x [] t (deeper i j) pl n = absurd j
inside_fed x (y ∷ s) t (deeper i j) pl n =
    inside_turn (choice_at x (type_of t.body)) x t (y ∷ s) (feed (y ∷ s) t) refl (tells x (type_of t.body) (open_in (y ∷ s)) t.start_mark n.0) i
    (λ e. inside_kept x t (y ∷ s) e i pl n j) (inside_fed y s t (within y s j) pl.1 n.1)
inside_fed x e t (at_end p q) pl n = at_end_kept x e t p q

-- between documents one state is alone
alone_fed : (x : State) (s : List State) (t : Token) → s ≡ []
    → FedKept t.body t.start_mark (open_in (x ∷ [])) (feed (x ∷ []) t)
    → FedKept t.body t.start_mark (open_in (x ∷ s)) (feed (x ∷ s) t)
alone_fed x s t e h = subst (λ (z : List State). FedKept t.body t.start_mark (open_in (x ∷ z)) (feed (x ∷ z) t)) (sym e) h

pub fed_kept : (x : State) (s : List State) (t : Token) → IsStack (x ∷ s) → Plain s → Nested (x ∷ s)
    → FedKept t.body t.start_mark (open_in (x ∷ s)) (feed (x ∷ s) t)
fed_kept x s t i p n = grind (arith, alone_fed, stream_kept, first_kept, documents_kept, directives_kept, inside_fed)

-- ---- the properties

abbrev pub FedProps : List Token → Fed → Type 0
FedProps past (stop is e) = Unit {0}
FedProps past (go is s) = PropsTop s past

props_with : (past : List Token) (i : RawEvent) (fed : Fed) → FedProps past fed
    → FedProps past (with_item i fed)
props_with past i fed h = grind arith

props_given : (past : List Token) (i : Option RawEvent) (above s : List State)
    → PropsTop (above ++ s) past → FedProps past (given_by (record { item = i; above = above }) s)
props_given past i above s h = grind arith

props_turn : (c : Choice) (x : State) (t : Token) (s : List State) (fed : Fed) (past : List Token)
    → choice_at x (type_of t.body) ≡ c → Tells c x (open_in s) t.start_mark → Plain s
    → (told x ≡ asking → last_in past ≡ asking) → PropsTop (x ∷ s) past → FedProps (t ∷ past) fed
    → FedProps (t ∷ past) (turn c x t s fed)
props_turn c x t s fed past h6 e pl l h r = grind (arith, props_given, taken_props, props_with, node_props)

plain_top : (x : State) (s : List State) (past : List Token) → told x ≡ other
    → PropsTop (x ∷ s) past
plain_top x s past h = grind arith

other_asks : (x : State) (past : List Token) → told x ≡ other → told x ≡ asking
    → last_in past ≡ asking
other_asks x past h e = grind arith

plain_fed : (s : List State) (t : Token) (past : List Token) → Plain s → Nested s
    → FedProps (t ∷ past) (feed s t)
unfolding feed
plain_fed [] t past p n = tt
plain_fed (x ∷ s) t past p n =
    props_turn (choice_at x (type_of t.body)) x t s (feed s t) past refl (tells x (type_of t.body) (open_in s) t.start_mark n.0) p.1 (other_asks x past p.0) (plain_top x s past p.0) (plain_fed s t past p.1 n.1)

pub fed_props : (x : State) (s : List State) (t : Token) (past : List Token) → Plain s
    → Nested (x ∷ s) → told x ≡ last_in past → PropsTop (x ∷ s) past
    → FedProps (t ∷ past) (feed (x ∷ s) t)
unfolding feed
fed_props x s t past p n l h =
    props_turn (choice_at x (type_of t.body)) x t s (feed s t) past refl (tells x (type_of t.body) (open_in s) t.start_mark n.0) p (λ e. sym l ∙ e) h (plain_fed s t past p n.1)
