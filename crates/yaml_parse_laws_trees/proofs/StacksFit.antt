-- One token: what a stack gives is loaded, and the stack after it fits the tokens from then on.
use Rattle.std.proofs.Common.{◌≡◌, true, List, [], ◌∷◌, None, refl, sym, subst, arith}
use Rattle.yaml_parse_laws_trees.proofs.Words.{yaml_mark_t, yaml_token_type_t, Token, type_of, Block, Root, Choice, Refuse, Take, Leave, Open, item_at, blank, State, IsInside, IsStack, choice_at, taken_at, left_at, Fed, with_item, given_by, turn, feed, Directives, settle, Loading, nothing_loaded, MayLeave, leave_rule, opens_first}
use Rattle.yaml_parse_laws_trees.specs.parse_grammar.Items as item
use Rattle.yaml_parse_laws_trees.specs.parse_grammar.States as state
use Rattle.yaml_parse_laws_trees.proofs.Single.{opens_node}
use Rattle.yaml_parse_laws_trees.proofs.FaultsStanding.{Plain}
use Rattle.yaml_parse_laws_trees.proofs.Fitting.{Names, NoneNamed, Fits, fits_below, Added, added_names, Passes, passes_on, node_passes, closed_fits, whole, FedLoads, loads_with}
use Rattle.yaml_parse_laws_trees.proofs.LoadingTaking.{SitsAt, Started, start_passes, node_loads, taken_loads}

-- ---- stacks

abbrev Sits : List State → Type 0
Sits [] = ⊥
Sits (x ∷ s) = SitsAt x s (Sits s)

inside_sits : (s : List State) → IsInside s → Sits s
inside_sits [] h = h
inside_sits (state.stream ∷ s) h = absurd h.0
inside_sits (state.first ∷ s) h = absurd h.0
inside_sits (state.documents ∷ s) h = absurd h.0
inside_sits (state.directives from ∷ s) h = absurd h.0
inside_sits (state.document_end ∷ s) h = h
inside_sits (_ ∷ s) h = inside_sits s h.1

pub stack_sits : (x : State) (s : List State) → IsStack (x ∷ s) → Sits (x ∷ s)
stack_sits x s h = grind (arith, inside_sits)

-- the states below are plain
abbrev pub PlainBelow : List State → Type 0
PlainBelow [] = Unit {0}
PlainBelow (x ∷ s) = Plain s

plain_below : (s : List State) → Plain s → PlainBelow s
plain_below s h = grind arith

-- a state that leaves has states below
sits_left : (x : State) (k : yaml_token_type_t) (s : List State) → MayLeave x k → Sits (x ∷ s)
    → Sits s
sits_left x k s l h = grind arith

-- ---- a state that leaves

blank_passes : (at : yaml_mark_t) (s : List State) (past : List Token) (ds : Directives)
    (l : Loading) → Plain s → Names past l
    → Passes (settle (blank at) ds) (blank at) l (λ m. Fits s past m)
blank_passes at s past ds l pl n =
    passes_on (settle (blank at) ds) (blank at) l (λ m. Added None l m) (λ m. Fits s past m) (λ m a.
    fits_below s past m pl (added_names None past l m n a) a.rooted) (node_passes None None item.empty at at ds l)

left_passes : (x : State) (k : yaml_token_type_t) (start : yaml_mark_t) (s : List State)
    (past : List Token) (ds : Directives) (l : Loading) → MayLeave x k → Plain s
    → Sits (x ∷ s) → Fits (x ∷ s) past l
    → Passes (settle (left_at x start) ds) (left_at x start) l (λ m. Fits s past m)
left_passes state.document_end k start s past ds l c pl i h = (nothing_loaded, λ q. whole l.document.nodes (q nothing_loaded) h, subst (λ (z : List State). Fits z past nothing_loaded) (sym i) tt)
left_passes (state.optional place before) k start s past ds l c pl i h = blank_passes _ s past ds l pl h.0
left_passes (state.others side) k start s past ds l c pl i h = (_, λ q. refl, closed_fits start l s past pl h.0 h.1)
left_passes (state.with_properties w p) k start s past ds l c pl i h =
    passes_on _ _ l (λ m. Added p.anchor l m) (λ m. Fits s past m) (λ m a.
    fits_below s past m pl (added_names p.anchor past l m h.0 a) a.rooted) (node_passes p.anchor p.tag item.empty p.from p.to ds l)
left_passes state.pair_end k start s past ds l c pl i h = (_, λ q. refl, closed_fits start l s past pl h.0 h.1)
left_passes (state.colon place) k start s past ds l c pl i h = blank_passes start s past ds l pl h.0
left_passes state.lone k start s past ds l c pl i h = blank_passes start s past ds l pl h.0
left_passes _ k start s past ds l c pl i h = absurd c

-- ---- a stack at a token

opened_loads : (x : State) (t : Token) (s : List State) (past : List Token) (ds : Directives)
    (l : Loading) → choice_at x (type_of t.body) ≡ Open → Plain s → NoneNamed past
    → FedLoads past t ds l
    (with_item (item_at (item.document true) t.start_mark t.start_mark)
    (given_by (taken_at (state.optional Root t.start_mark) t)
    (state.document_end ∷ state.documents ∷ s)))
opened_loads x t s past ds l c pl n =
    loads_with past t ds l (item_at (item.document true) t.start_mark t.start_mark) (given_by (taken_at (state.optional Root t.start_mark) t) (state.document_end ∷ state.documents ∷ s)) (λ m. Started past m)
    (start_passes true t.start_mark t.start_mark past ds l n)
    (λ m q d. node_loads (Block None) t.start_mark t.end_mark t.body (state.document_end ∷ state.documents ∷ s) past d m (opens_node x (type_of t.body) c) (refl, (refl, pl)) q.0 q.1)

turn_loads : (c : Choice) (x : State) (t : Token) (s : List State) (fed : Fed) (past : List Token)
    (ds : Directives) (l : Loading) → choice_at x (type_of t.body) ≡ c → Plain s → Sits (x ∷ s)
    → Fits (x ∷ s) past l
    → (choice_at x (type_of t.body) ≡ Leave → (m : Loading) → Fits s past m → (d : Directives)
    → FedLoads past t d m fed) → FedLoads past t ds l (turn c x t s fed)
turn_loads (Refuse p o) x t s fed past ds l c pl i h k = (l, refl)
turn_loads Take x t s fed past ds l c pl i h k = taken_loads x t s past ds l (Sits s) c pl i h
turn_loads Leave x t s fed past ds l c pl i h k =
    loads_with past t ds l (left_at x t.start_mark) fed (λ m. Fits s past m) (left_passes x (type_of t.body) t.start_mark s past ds l (leave_rule x (type_of t.body) c) pl i h) (k c)
turn_loads Open x t s fed past ds l c pl i h k = opened_loads x t s past ds l c pl (subst (λ (y : State). Fits (y ∷ s) past l) (opens_first x (type_of t.body) c) h)

pub fed_loads : (s : List State) (t : Token) (past : List Token) (ds : Directives) (l : Loading)
    → Sits s → PlainBelow s → Fits s past l → FedLoads past t ds l (feed s t)
unfolding feed
fed_loads [] t past ds l i pl h = absurd i
fed_loads (x ∷ s) t past ds l i pl h =
    turn_loads (choice_at x (type_of t.body)) x t s (feed s t) past ds l refl pl i h
    (λ c m f d. fed_loads s t past d m (sits_left x (type_of t.body) s (leave_rule x (type_of t.body) c) i) (plain_below s pl) f)
