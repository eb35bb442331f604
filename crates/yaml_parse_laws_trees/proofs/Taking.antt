-- What a stack waits for, after a token; and the reading of what a step gives.
use Rattle.std.proofs.Common.{◌≡◌, ℕ, true, List, [], ◌∷◌, ◌++◌, map, Option, Some, refl, sym, subst, arith}
use Rattle.yaml_parse_laws_trees.proofs.Words.{yaml_token_type_t, Token, type_of, no_token, Fault, Root, Choice, Refuse, Take, Leave, Open, RawEvent, item_at, State, IsInside, IsStack, Given, choice_at, taken_at, left_at, Fed, stop, go, with_item, given_by, turn, feed, Directives, Settled, settle, Reading, reading, unasked_at_fault, MayLeave, leave_rule, none_opens}
use Rattle.yaml_parse_laws_trees.specs.parse_grammar.parse_model.declared.yaml_token_type_t.TheVariants as kind
use Rattle.yaml_parse_laws_trees.specs.parse_grammar.Items as item
use Rattle.yaml_parse_laws_trees.specs.parse_grammar.States as state
use Rattle.yaml_parse_laws_trees.specs.parse_grammar.Resolve as resolve
use Rattle.yaml_parse_laws_trees.proofs.EventsToGive.{takes_a_token}
use Rattle.yaml_parse_laws_trees.proofs.Left.{Left, Over, over_both, leaving, taking, opening}
use Rattle.yaml_parse_laws_trees.proofs.Settling.{Done, bad, fine, then_read, read_all}

-- ---- a state that never leaves is at the bottom

abbrev pub SolidAt : State → Type 0 → Type 0
SolidAt state.stream below = Unit {0}
SolidAt state.first below = Unit {0}
SolidAt state.documents below = Unit {0}
SolidAt (state.directives from) below = Unit {0}
SolidAt _ below = below

abbrev pub Solid : List State → Type 0
Solid [] = ⊥
Solid (x ∷ s) = SolidAt x (Solid s)

inside_solid : (s : List State) → IsInside s → Solid s
inside_solid [] h = h
inside_solid (state.stream ∷ s) h = tt
inside_solid (state.first ∷ s) h = tt
inside_solid (state.documents ∷ s) h = tt
inside_solid (state.directives from ∷ s) h = tt
inside_solid (state.document_end ∷ s) h = subst Solid (sym h) tt
inside_solid (_ ∷ s) h = inside_solid s h.1

pub stack_solid : (x : State) (s : List State) → IsStack (x ∷ s) → Solid (x ∷ s)
stack_solid x s h = grind (arith, inside_solid)

pub solid_left : (x : State) (k : yaml_token_type_t) (A : Type 0) → MayLeave x k → SolidAt x A → A
solid_left x k A l h = grind arith

-- ---- what the stack after a token waits for, after the token, is what the stack before it waits for

abbrev pub Takes : (List Token → Type 0) → List State → Token → Fed → Type 0
Takes P s t (stop is e) = Unit {0}
Takes P s t (go is s') = (ts : List Token) → Over s' P ts → Over s P (t ∷ ts)

takes_with : (P : List Token → Type 0) (s : List State) (t : Token) (i : RawEvent) (fed : Fed)
    → Takes P s t fed → Takes P s t (with_item i fed)
takes_with P s t i fed h = grind arith

takes_given : (P : List Token → Type 0) (x : State) (i : Option RawEvent) (above s : List State)
    (t : Token) (below : List State)
    → ((ts : List Token) → Over above (Over below P) ts → Left x (Over s P) (t ∷ ts))
    → Takes P (x ∷ s) t (given_by (record { item = i; above = above }) below)
takes_given P x i above s t below h = grind (arith, over_both)

takes_left : (P : List Token → Type 0) (x : State) (s : List State) (t : Token) (fed : Fed)
    → choice_at x (type_of t.body) ≡ Leave → Takes P s t fed → Takes P (x ∷ s) t fed
takes_left P x s t (stop is e) c h = tt
takes_left P x s t (go is s') c h = λ ts k. leaving x (type_of t.body) (leave_rule x (type_of t.body) c) (Over s P) (t ∷ ts) (h ts k)

takes_turn : (P : List Token → Type 0) (c : Choice) (x : State) (t : Token) (s : List State)
    (fed : Fed) → choice_at x (type_of t.body) ≡ c
    → (choice_at x (type_of t.body) ≡ Leave → Takes P s t fed)
    → Takes P (x ∷ s) t (turn c x t s fed)
takes_turn P (Refuse p o) x t s fed e h = tt
takes_turn P Take x t s fed e h = takes_given P x (taken_at x t).item (taken_at x t).above s t s (λ ts k. taking x t e (Over s P) ts k)
takes_turn P Leave x t s fed e h = takes_with P (x ∷ s) t (left_at x t.start_mark) fed (takes_left P x s t fed e (h e))
takes_turn P Open x t s fed e h =
    takes_with P (x ∷ s) t (item_at (item.document true) t.start_mark t.start_mark) (given_by (taken_at (state.optional Root t.start_mark) t) (state.document_end ∷ state.documents ∷ s))
    (takes_given P x (taken_at (state.optional Root t.start_mark) t).item (taken_at (state.optional Root t.start_mark) t).above s t (state.document_end ∷ state.documents ∷ s) (λ ts k. opening x t e (Over s P) ts k))

pub takes : (P : List Token → Type 0) (s : List State) (t : Token) → Solid s
    → Takes P s t (feed s t)
unfolding feed
takes P [] t h = absurd h
takes P (x ∷ s) t h = takes_turn P (choice_at x (type_of t.body)) x t s (feed s t) refl (λ e. takes P s t (solid_left x (type_of t.body) (Solid s) (leave_rule x (type_of t.body) e) h))

-- ---- the empty token is refused

abbrev pub Stops : Fed → Type 0
Stops (stop is e) = Unit {0}
Stops (go is s) = ⊥

stops_with : (i : RawEvent) (fed : Fed) → Stops fed → Stops (with_item i fed)
stops_with i fed h = grind arith

stops_turn : (c : Choice) (x : State) (s : List State) (fed : Fed)
    → choice_at x kind.YAML_NO_TOKEN ≡ c → (choice_at x kind.YAML_NO_TOKEN ≡ Leave → Stops fed)
    → Stops (turn c x no_token s fed)
stops_turn c x s fed e h = grind (arith, takes_a_token, stops_with, none_opens)

pub stops_at_none : (s : List State) → Solid s → Stops (feed s no_token)
unfolding feed
stops_at_none [] h = absurd h
stops_at_none (x ∷ s) h = stops_turn (choice_at x kind.YAML_NO_TOKEN) x s (feed s no_token) refl (λ e. stops_at_none s (solid_left x kind.YAML_NO_TOKEN (Solid s) (leave_rule x kind.YAML_NO_TOKEN e) h))

-- ---- reading what a step gives

-- how many tokens are not asked for at the fault
abbrev pub number_of : Done → ℕ → (Directives → ℕ) → ℕ
number_of (bad e) left k = left
number_of (fine ds) left k = k ds

one_number : (c : Settled) (left : ℕ) (k : Directives → ℕ) (l : Directives → Done)
    (m : Directives → ℕ) → ((ds : Directives) → k ds ≡ number_of (l ds) left m)
    → resolve.unasked_on c left k ≡ number_of (then_read c l) left m
one_number c left k l m h = grind arith

pub front_number : (is : List RawEvent) (left : ℕ) (gs : List Given) (n : ℕ) (ds : Directives)
    → unasked_at_fault (map (λ (i : RawEvent). (i, left)) is ++ gs) n ds
    ≡ number_of (read_all is ds) left (λ d. unasked_at_fault gs n d)
unfolding unasked_at_fault
front_number [] left gs n ds = refl
front_number (i ∷ is) left gs n ds =
    one_number (settle i ds) left (λ d. unasked_at_fault (map (λ (i : RawEvent). (i, left)) is ++ gs) n d) (λ d. read_all is d) (λ d. unasked_at_fault gs n d) (λ d. front_number is left gs n d)

one_last : (c : Settled) (left : ℕ) (k : Directives → ℕ) → ((ds : Directives) → k ds ≡ left)
    → resolve.unasked_on c left k ≡ left
one_last c left k h = grind arith

pub last_number : (is : List RawEvent) (left : ℕ) (ds : Directives)
    → unasked_at_fault (map (λ (i : RawEvent). (i, left)) is) left ds ≡ left
unfolding unasked_at_fault
last_number [] left ds = refl
last_number (i ∷ is) left ds = one_last (settle i ds) left (λ d. unasked_at_fault (map (λ (i : RawEvent). (i, left)) is) left d) (λ d. last_number is left d)

abbrev pub ending_of : Done → (Directives → Option Fault) → Option Fault
ending_of (bad e) k = Some e
ending_of (fine ds) k = k ds

one_read : (c : Settled) (i : RawEvent) (left : ℕ) (k : Directives → Reading)
    (l : Directives → Done) (m : Directives → Option Fault)
    → ((ds : Directives) → (k ds).ending ≡ ending_of (l ds) m)
    → (resolve.read_on c i left k).ending ≡ ending_of (then_read c l) m
one_read c i left k l m h = grind arith

pub front_read : (is : List RawEvent) (left : ℕ) (gs : List Given) (f : Option Fault)
    (ds : Directives)
    → (reading (map (λ (i : RawEvent). (i, left)) is ++ gs) f ds).ending
    ≡ ending_of (read_all is ds) (λ d. (reading gs f d).ending)
unfolding reading
front_read [] left gs f ds = refl
front_read (i ∷ is) left gs f ds =
    one_read (settle i ds) i left (λ d. reading (map (λ (i : RawEvent). (i, left)) is ++ gs) f d) (λ d. read_all is d) (λ d. (reading gs f d).ending) (λ d. front_read is left gs f d)

pub last_read : (is : List RawEvent) (left : ℕ) (f : Option Fault) (ds : Directives)
    → (reading (map (λ (i : RawEvent). (i, left)) is) f ds).ending
    ≡ ending_of (read_all is ds) (λ d. f)
unfolding reading
last_read [] left f ds = refl
last_read (i ∷ is) left f ds = one_read (settle i ds) i left (λ d. reading (map (λ (i : RawEvent). (i, left)) is) f d) (λ d. read_all is d) (λ d. f) (λ d. last_read is left f d)
