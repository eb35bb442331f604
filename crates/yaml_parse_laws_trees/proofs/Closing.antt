-- Tokens that close all that is open. What is given at a refused token is given at these too.
use Rattle.std.proofs.Common.{◌≡◌, true, List, [], ◌∷◌, None, refl, subst, arith}
use Rattle.yaml_parse_laws_trees.proofs.Words.{yaml_mark_t, YAML_ANY_ENCODING, yaml_token_type_t, Token, TokenBody, type_of, Site, Choice, Leave, RawEvent, State, Span, closing, token_at, choice_at, left_at, Fed, stop, go, with_item, turn, feed, run, BeginsWithItems, is_end, EndsAt, MayLeave, MayRefuse, leave_rule, false≢true}
use Rattle.yaml_parse_model.specs.scan_types.Tokens as token
use Rattle.yaml_parse_laws_trees.specs.parse_grammar.declared.name.Brackets.TheVariants as brackets
use Rattle.yaml_parse_laws_trees.specs.parse_grammar.States as state
use Rattle.yaml_parse_laws_trees.specs.parse_grammar.Trees as tree
use Rattle.yaml_parse_laws_trees.proofs.Complete.{leaves_at}
use Rattle.yaml_parse_laws_trees.proofs.Left.{Left, Over, properties_alone}
use Rattle.yaml_parse_laws_trees.proofs.SoundStanding.{Goes, Fits, Closed, Stood, AllStood}

-- ---- tokens that close all that is open

abbrev pub nowhere : yaml_mark_t → Span
nowhere m = record { from = m; to = m }

abbrev pub mark_of : yaml_mark_t → TokenBody → Token
mark_of m body = token_at body (nowhere m)

abbrev pub closer : yaml_mark_t → State → List Token → List Token
closer m state.stream ts = mark_of m (token.stream_start YAML_ANY_ENCODING) ∷ mark_of m token.stream_end ∷ ts
closer m state.first ts = mark_of m token.stream_end ∷ ts
closer m state.documents ts = mark_of m token.stream_end ∷ ts
closer m (state.directives from) ts = mark_of m token.document_start ∷ mark_of m token.stream_end ∷ ts
closer m (state.entries opener) ts = mark_of m token.block_end ∷ ts
closer m (state.pairs opener) ts = mark_of m token.block_end ∷ ts
closer m (state.items b opener) ts = mark_of m (closing b) ∷ ts
closer m (state.more b opener) ts = mark_of m (closing b) ∷ ts
closer m _ ts = ts

abbrev pub closers : yaml_mark_t → List State → List Token
closers m [] = []
closers m (x ∷ s) = closer m x (closers m s)

closer_closes : (m : yaml_mark_t) (x : State) (P : List Token → Type 0) (ts : List Token) → P ts
    → Left x P (closer m x ts)
closer_closes m state.stream P ts h = record {
  tree = record { encoding = YAML_ANY_ENCODING; start = nowhere m; first = tree.no_first; documents = tree.end_stream (nowhere m) };
  rest = ts;
  same = refl;
  goes = h;
}
closer_closes m state.first P ts h = record { tree = tree.no_first; rest = mark_of m token.stream_end ∷ ts; same = refl; goes = record { tree = tree.end_stream (nowhere m); rest = ts; same = refl; goes = h } }
closer_closes m state.documents P ts h = record { tree = []; rest = mark_of m token.stream_end ∷ ts; same = refl; goes = record { tree = tree.end_stream (nowhere m); rest = ts; same = refl; goes = h } }
closer_closes m (state.directives from) P ts h = record {
  tree = record { directives = []; start = nowhere m; root = tree.left_out; ends = []; documents = tree.end_stream (nowhere m) };
  rest = ts;
  same = refl;
  goes = h;
}
closer_closes m (state.optional place before) P ts h = record { tree = tree.left_out; rest = ts; same = refl; goes = h }
closer_closes m state.document_end P ts h = record { tree = None; rest = ts; same = refl; goes = h }
closer_closes m (state.entries opener) P ts h = record { tree = tree.end_entries (nowhere m); rest = ts; same = refl; goes = h }
closer_closes m (state.others side) P ts h = record { tree = tree.no_others; rest = ts; same = refl; goes = h }
closer_closes m (state.pairs opener) P ts h = record { tree = tree.end_pairs (nowhere m); rest = ts; same = refl; goes = h }
closer_closes m (state.colon place) P ts h = record { tree = tree.no_colon; rest = ts; same = refl; goes = h }
closer_closes m (state.with_properties w p) P ts h = properties_alone w p.anchor p.tag P ts h
closer_closes m (state.items b opener) P ts h = record { tree = tree.end_items (nowhere m); rest = ts; same = refl; goes = h }
closer_closes m (state.more b opener) P ts h = record { tree = tree.end_more (nowhere m); rest = ts; same = refl; goes = h }
closer_closes m state.pair_end P ts h = h
closer_closes m state.lone P ts h = h

abbrev pub Empty : List Token → Type 0
Empty ts = ts ≡ []

pub all_close : (m : yaml_mark_t) (s : List State) → Over s Empty (closers m s)
all_close m [] = refl
all_close m (x ∷ s) = closer_closes m x (Over s Empty) (closers m s) (all_close m s)

-- ---- what leaves at them

pub closers_end : (m : yaml_mark_t) (s : List State) → Closed s → EndsAt m (closers m s)
closers_end m [] h = h
closers_end m (state.stream ∷ s) h = absurd h
closers_end m (state.directives from ∷ s) h = absurd h
closers_end m (state.first ∷ s) h = (refl, refl)
closers_end m (state.documents ∷ s) h = (refl, refl)
closers_end m (state.entries o ∷ s) h = (refl, refl)
closers_end m (state.pairs o ∷ s) h = (refl, refl)
closers_end m (state.items brackets.Sequence o ∷ s) h = (refl, refl)
closers_end m (state.items brackets.Mapping o ∷ s) h = (refl, refl)
closers_end m (state.more brackets.Sequence o ∷ s) h = (refl, refl)
closers_end m (state.more brackets.Mapping o ∷ s) h = (refl, refl)
closers_end m (state.optional place before ∷ s) h = closers_end m s h
closers_end m (state.document_end ∷ s) h = closers_end m s h
closers_end m (state.others side ∷ s) h = closers_end m s h
closers_end m (state.colon place ∷ s) h = closers_end m s h
closers_end m (state.with_properties w p ∷ s) h = closers_end m s h
closers_end m (state.pair_end ∷ s) h = closers_end m s h
closers_end m (state.lone ∷ s) h = closers_end m s h

-- a state that may always be left out
abbrev pub IsLight : State → Type 0
IsLight x = MayRefuse x → ⊥

-- It is left before each token that ends something.
pub light_leaves : (x : State) (b : TokenBody) → IsLight x → is_end b ≡ true
    → choice_at x (type_of b) ≡ Leave
light_leaves x b l h = grind (arith, false≢true)

light_begins : (x : State) (m : yaml_mark_t) (ts : List Token) (s : List State) (is : List RawEvent)
    → IsLight x → EndsAt m ts → BeginsWithItems is (run ts s None).items
    → BeginsWithItems (left_at x m ∷ is) (run ts (x ∷ s) None).items
light_begins x m ts s is l h b = grind (arith, leaves_at, light_leaves)

-- ---- what is given at a refused token

abbrev pub StopBegins : yaml_mark_t → List State → Fed → Type 0
StopBegins m s (stop is f) = BeginsWithItems is (run (closers m s) s None).items
StopBegins m s (go is s') = Unit {0}

-- a node that is left out is refused by nothing below
fitting : (place : Site) (before : yaml_mark_t) (s : List State) (t : Token)
    → choice_at (state.optional place before) (type_of t.body) ≡ Leave → Fits place s
    → Goes (feed s t)
fitting place before s t c f = f t (leave_rule (state.optional place before) (type_of t.body) c)

left_begins : (x : State) (k : yaml_token_type_t) (m : yaml_mark_t) (s : List State)
    (is : List RawEvent) → MayLeave x k → Stood x s
    → ((place : Site) (before : yaml_mark_t) → x ≡ state.optional place before → ⊥)
    → BeginsWithItems is (run (closers m s) s None).items
    → BeginsWithItems (left_at x m ∷ is) (run (closers m (x ∷ s)) (x ∷ s) None).items
left_begins x k m s is l h u b = grind (arith, light_begins, closers_end)

not_fitting : (x : State) (s : List State) (t : Token) → choice_at x (type_of t.body) ≡ Leave
    → Stood x s → (Goes (feed s t) → ⊥) → (place : Site) (before : yaml_mark_t)
    → x ≡ state.optional place before → ⊥
not_fitting x s t c h n place before e = grind (arith, fitting)

leave_begins : (x : State) (t : Token) (s : List State) (below : Fed) → feed s t ≡ below
    → choice_at x (type_of t.body) ≡ Leave → Stood x s
    → StopBegins t.start_mark s below
    → StopBegins t.start_mark (x ∷ s) (with_item (left_at x t.start_mark) below)
leave_begins x t s (stop is f) p c h b = left_begins x (type_of t.body) t.start_mark s is (leave_rule x (type_of t.body) c) h (not_fitting x s t c h (λ g. subst Goes p g)) b
leave_begins x t s (go is s') p c h b = tt

turn_begins : (c : Choice) (x : State) (t : Token) (s : List State)
    → choice_at x (type_of t.body) ≡ c → Stood x s → StopBegins t.start_mark s (feed s t)
    → StopBegins t.start_mark (x ∷ s) (turn c x t s (feed s t))
turn_begins c x t s e h b = grind (arith, leave_begins)

pub feed_begins : (s : List State) (t : Token) → AllStood s → StopBegins t.start_mark s (feed s t)
unfolding feed
feed_begins [] t a = tt
feed_begins (x ∷ s) t a = turn_begins (choice_at x (type_of t.body)) x t s refl a.0 (feed_begins s t a.1)
