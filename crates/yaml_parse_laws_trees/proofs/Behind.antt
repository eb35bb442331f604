-- What a stack gives at a token that it refuses: nothing where a node or a document must come, and else what it gives at an end.
use Rattle.std.proofs.Common.{◌≡◌, ◌⊎◌, Bool, true, false, List, [], ◌∷◌, ◌++◌, Option, Some, None, refl, ap, ◌∙◌, arith, sym, subst}
use Rattle.yaml_parse_laws_trees.proofs.Words.{left_at, Refuse, yaml_mark_t, yaml_token_type_t, Token, TokenBody, type_of, Brackets, Choice, Take, Leave, RawEvent, State, choice_at, documents_taken, taken_at, Fed, stop, go, with_item, given_by, turn, feed, is_end, last_leaves_open, entries_taken, pairs_taken, more_taken, leaves_open, MayLeave, leave_rule, refuse_rule, opens_first, was_take, false≢true, true≢false}
use Rattle.yaml_parse_laws_trees.specs.parse_grammar.States as state
use Rattle.yaml_parse_laws_trees.proofs.SoundStanding.{Goes, Closed, Stood}
use Rattle.yaml_parse_laws_trees.proofs.Closing.{IsLight, light_leaves}
use Rattle.yaml_parse_laws_trees.proofs.FaultsStanding.{Last, nothing, asking, property, directive, other, last_of, told, Plain}
use Rattle.yaml_parse_laws_trees.proofs.Walking.{last_behind}

-- ---- which last tokens leave a node or a document open

abbrev pub open_behind : Last → Bool
open_behind nothing = true
open_behind asking = true
open_behind directive = true
open_behind property = false
open_behind other = false

body_open : (b : TokenBody) → leaves_open b ≡ open_behind (last_of b)
body_open b = grind arith

pub front_open : (front : List Token) (l : Last)
    → last_leaves_open (open_behind l) front ≡ open_behind (last_behind l front)
front_open [] l = refl
front_open (t ∷ front) l = ap (λ (b : Bool). last_leaves_open b front) (body_open t.body) ∙ front_open front (last_of t.body)

-- ---- where one is open, a refused token gives nothing

abbrev pub GivesNone : Fed → Type 0
GivesNone (stop is e) = is ≡ []
GivesNone (go is s) = Unit {0}

-- where a node is left out, nothing below refuses
open_leaves : (x : State) (t : Token) (s : List State) → open_behind (told x) ≡ true → Stood x s
    → MayLeave x (type_of t.body) → Goes (feed s t)
open_leaves x t s o h l = grind (arith, false≢true)

goes_none : (i : RawEvent) (fed : Fed) → Goes fed → GivesNone (with_item i fed)
goes_none i fed h = grind arith

none_turn : (c : Choice) (x : State) (t : Token) (s : List State) (fed : Fed)
    → (c ≡ Leave → Goes fed) → GivesNone (turn c x t s fed)
none_turn c x t s fed h = grind (arith, goes_none)

pub none_given : (x : State) (s : List State) (t : Token) → open_behind (told x) ≡ true → Stood x s
    → GivesNone (feed (x ∷ s) t)
unfolding feed
none_given x s t o h = none_turn (choice_at x (type_of t.body)) x t s (feed s t) (λ e. open_leaves x t s o h (leave_rule x (type_of t.body) e))

-- ---- else it gives what an end gives that is there, except for that end

pub record OneMore (is js : List RawEvent) : Type 0 where
  pub last : RawEvent
  pub same : js ≡ is ++ last ∷ []

abbrev pub AlikeStopped : List RawEvent → Fed → Type 0
AlikeStopped is (stop js e) = Unit {0}
AlikeStopped is (go js s) = OneMore is js

abbrev pub Alike : Fed → Fed → Type 0
Alike (stop is e) fed = AlikeStopped is fed
Alike (go is s) fed = Unit {0}

abbrev pub HasItem : Option RawEvent → Type 0
HasItem None = ⊥
HasItem (Some i) = Unit {0}

-- a state that is never left, and gives an end's event where it takes one
abbrev IsHeavy : State → Type 0
IsHeavy state.documents = Unit {0}
IsHeavy (state.entries opener) = Unit {0}
IsHeavy (state.pairs opener) = Unit {0}
IsHeavy (state.more b opener) = Unit {0}
IsHeavy _ = ⊥

heavy_stays : (x : State) (k : yaml_token_type_t) → IsHeavy x → MayLeave x k → ⊥
heavy_stays x k h l = grind arith

documents_tell : (start end : yaml_mark_t) (b : TokenBody) → is_end b ≡ true
    → choice_at state.documents (type_of b) ≡ Take
    → HasItem (documents_taken start start end b).item
documents_tell start end b e c = grind (arith, was_take, false≢true)

entries_tell : (opener start end : yaml_mark_t) (b : TokenBody) → is_end b ≡ true
    → HasItem (entries_taken opener start end b).item
entries_tell opener start end b e = grind (arith, false≢true)

pairs_tell : (opener start end : yaml_mark_t) (b : TokenBody) → is_end b ≡ true
    → HasItem (pairs_taken opener start end b).item
pairs_tell opener start end b e = grind (arith, false≢true)

more_tell : (b : Brackets) (opener start end : yaml_mark_t) (x : TokenBody) → is_end x ≡ true
    → HasItem (more_taken b opener start end x).item
more_tell b opener start end x e = grind (arith, false≢true)

heavy_tells : (x : State) (t : Token) → IsHeavy x → is_end t.body ≡ true
    → choice_at x (type_of t.body) ≡ Take → HasItem (taken_at x t).item
heavy_tells x t h e c = grind (arith, documents_tell, entries_tell, pairs_tell, more_tell)

light_or_heavy : (x : State) → open_behind (told x) ≡ false → IsLight x ⊎ IsHeavy x
light_or_heavy x h = grind (arith, true≢false)

alike_with : (i j : RawEvent) (a b : Fed) → j ≡ i → Alike a b
    → Alike (with_item i a) (with_item j b)
alike_with i j a b p h = grind arith

light_turn : (c : Choice) (x : State) (t u : Token) (s : List State) (a b : Fed) → IsLight x
    → choice_at x (type_of t.body) ≡ c → is_end u.body ≡ true → u.start_mark ≡ t.start_mark
    → Alike a b
    → Alike (turn c x t s a) (turn (choice_at x (type_of u.body)) x u s b)
light_turn (Refuse p o) x t u s a b l c e m h = absurd (l (refuse_rule x (type_of t.body) p o c))
light_turn Leave x t u s a b l c e m h =
    subst (λ (d : Choice). Alike (with_item (left_at x t.start_mark) a) (turn d x u s b)) (sym (light_leaves x u.body l e))
    (alike_with (left_at x t.start_mark) (left_at x u.start_mark) a b (ap (left_at x) m) h)
light_turn _ x t u s a b l c e m h = tt

given_one : (i : Option RawEvent) (above s : List State) → HasItem i
    → AlikeStopped [] (given_by (record { item = i; above = above }) s)
given_one i above s h = grind arith

heavy_end : (d : Choice) (x : State) (u : Token) (s : List State) (b : Fed) → IsHeavy x
    → choice_at x (type_of u.body) ≡ d → is_end u.body ≡ true → AlikeStopped [] (turn d x u s b)
heavy_end d x u s b h c e = grind (arith, given_one, heavy_tells, heavy_stays, leave_rule, opens_first)

heavy_turn : (c : Choice) (x : State) (t u : Token) (s : List State) (a b : Fed) → IsHeavy x
    → choice_at x (type_of t.body) ≡ c → is_end u.body ≡ true
    → Alike (turn c x t s a) (turn (choice_at x (type_of u.body)) x u s b)
heavy_turn c x t u s a b h h8 e = grind (arith, heavy_end, heavy_stays, leave_rule)

sorted_turn : (x : State) (t u : Token) (s : List State) (a b : Fed) → IsLight x ⊎ IsHeavy x
    → is_end u.body ≡ true → u.start_mark ≡ t.start_mark → Alike a b
    → Alike (turn (choice_at x (type_of t.body)) x t s a)
    (turn (choice_at x (type_of u.body)) x u s b)
sorted_turn x t u s a b h6 e m h = grind (arith, light_turn, heavy_turn)

plain_alike : (s : List State) (t u : Token) → Plain s → is_end u.body ≡ true
    → u.start_mark ≡ t.start_mark → Alike (feed s t) (feed s u)
unfolding feed
plain_alike [] t u p e m = tt
plain_alike (x ∷ s) t u p e m = sorted_turn x t u s (feed s t) (feed s u) (light_or_heavy x (ap open_behind p.0)) e m (plain_alike s t u p.1 e m)

pub feed_alike : (x : State) (s : List State) (t u : Token) → open_behind (told x) ≡ false → Plain s
    → is_end u.body ≡ true → u.start_mark ≡ t.start_mark → Alike (feed (x ∷ s) t) (feed (x ∷ s) u)
unfolding feed
feed_alike x s t u o p e m = sorted_turn x t u s (feed s t) (feed s u) (light_or_heavy x o) e m (plain_alike s t u p e m)

-- ---- an end that is there

pub closed_top : (x : State) (s : List State) → open_behind (told x) ≡ false → Stood x s
    → Closed (x ∷ s)
closed_top x s o h = grind (arith, true≢false)
