-- What a stack of states gives, of any tokens and under any directives, is a front of the events of contents.
use Rattle.std.proofs.Common.{◌≡◌, ℕ, Bool, true, false, if◌then◌else◌, List, [], ◌∷◌, ◌++◌, map, length, Option, Some, None, refl, ap, subst, arith}
use Rattle.yaml_parse_laws_trees.proofs.Words.{yaml_mark_t, yaml_scalar_style_t, yaml_version_directive_t, Token, type_of, no_token, zero_mark, Fault, Event, EventBody, TagDirective, RawEvent, RawEventBody, Shape, item_at, State, Taken, Given, choice_at, taken_at, left_at, Fed, stop, go, with_item, given_by, turn, feed, Outcome, finished, carry, ending_at, run, wants_of, Directives, Settled, refused, gave, noted, settle, with_version, with_tag, with_resolved, node_event, Reading, Told, placed, read_on, reading, reading_of, IsStack, spanning, DocumentContent, document_events, told_events, IsOutside, AreOutside, LoadsByContent, contents_events, settle_body, is_between, leave_rule}
use Rattle.std.specs.Prelude.{ℤ}
use Rattle.yaml_parse_laws_trees.specs.parse_grammar.parse_model.Events as event
use Rattle.yaml_parse_laws_trees.specs.parse_grammar.declared.Site.TheVariants.{Root}
use Rattle.yaml_parse_laws_trees.specs.parse_grammar.declared.Choice.{Choice}
use Rattle.yaml_parse_laws_trees.specs.parse_grammar.declared.Choice.TheVariants.{Refuse, Take, Leave, Open}
use Rattle.yaml_parse_laws_trees.specs.parse_grammar.Items as item
use Rattle.yaml_parse_laws_trees.specs.parse_grammar.States as state
use Rattle.yaml_parse_laws_trees.proofs.ByContent.{by_content}
use Rattle.yaml_parse_laws_trees.proofs.ToGive.{at_span, documents_before, Node, Documents, Stream, ToGive, Over, over_both, IsScalar, IsOf, FitsBody, Fits, FitsIf, document_more, node_fits, taking_fits, leaving_fits, opening_fits, Has, state_has, stack_has}

-- ---- settled items

abbrev SettledFits : Settled → RawEvent → (List Event → Type 0) → (List Event → Type 0) → Type 0
SettledFits (refused f) i Y X = Unit {0}
SettledFits (gave b ds) i Y X = (es : List Event) → Y es → X (placed b i ∷ es)
SettledFits (noted ds) i Y X = (es : List Event) → Y es → X es

known_fits : (b : Bool) (ds : Directives) (f : Fault) (i : RawEvent) (Y X : List Event → Type 0)
    → ((es : List Event) → Y es → X es) → SettledFits (if b then noted ds else refused f) i Y X
known_fits b ds f i Y X h = grind arith

version_fits : (o : Option yaml_version_directive_t) (tags : List TagDirective) (major minor : ℤ)
    (at : yaml_mark_t) (i : RawEvent) (Y X : List Event → Type 0)
    → ((es : List Event) → Y es → X es)
    → SettledFits (with_version o tags major minor at) i Y X
version_fits o tags major minor at i Y X h = grind (arith, known_fits)

handle_fits : (o : Option (List ℕ)) (ds : Directives) (handle prefix : List ℕ) (at : yaml_mark_t)
    (i : RawEvent) (Y X : List Event → Type 0) → ((es : List Event) → Y es → X es)
    → SettledFits (with_tag o ds handle prefix at) i Y X
handle_fits o ds handle prefix at i Y X h = grind arith

tagged_is : (b : Bool) (anchor : Option (List ℕ)) (tag value : List ℕ) (style : yaml_scalar_style_t)
    → IsScalar (if b then event.scalar anchor None value true false style else event.scalar anchor
    (Some tag) value false false style)
tagged_is b anchor tag value style = grind arith

event_is : (anchor tag : Option (List ℕ)) (shape : Shape) → IsOf shape (node_event anchor tag shape)
event_is anchor tag shape = grind (arith, tagged_is)

resolved_fits : (o anchor : Option (List ℕ)) (shape : Shape) (from at : yaml_mark_t)
    (ds : Directives) (i : RawEvent) (Y X : List Event → Type 0)
    → ((b : EventBody) → IsOf shape b → (es : List Event) → Y es → X (placed b i ∷ es))
    → SettledFits (with_resolved o anchor shape from at ds) i Y X
resolved_fits o anchor shape from at ds i Y X h = grind (arith, event_is)

settled_fits : (b : RawEventBody) (from : yaml_mark_t) (ds : Directives) (i : RawEvent)
    (Y X : List Event → Type 0) → FitsBody b i Y X → SettledFits (settle_body b from ds) i Y X
settled_fits b from ds i Y X h = grind (arith, version_fits, handle_fits, event_is, resolved_fits)

-- ---- readings

-- the events begin some that are such
pub record Extended (X : List Event → Type 0) (es : List Event) : Type 0 where
  pub more : List Event
  pub is : X (es ++ more)

abbrev Extends : List Given → (List Event → Type 0) → Type 0
Extends gs X = (f : Option Fault) (ds : Directives) → Extended X (told_events (reading gs f ds).events)

read_fits : (c : Settled) (i : RawEvent) (left : ℕ) (k : Directives → Reading)
    (Y X : List Event → Type 0) → SettledFits c i Y X → Has X
    → ((ds : Directives) → Extended Y (told_events (k ds).events))
    → Extended X (told_events (read_on c i left k).events)
read_fits c i left k Y X h s e = grind arith

item_extends : (i : RawEvent) (left : ℕ) (gs : List Given) (Y X : List Event → Type 0) → Fits i Y X
    → Has X → Extends gs Y → Extends ((i, left) ∷ gs) X
unfolding reading
item_extends i left gs Y X h s e = λ f ds. read_fits (settle i ds) i left (λ d. reading gs f d) Y X (settled_fits i.body i.from ds i Y X h) s (λ d. e f d)

none_extends : (X : List Event → Type 0) → Has X → Extends [] X
unfolding reading
none_extends X s = λ f ds. record { more = s.given; is = s.is }

silent_extends : (gs : List Given) (Y X : List Event → Type 0) → ((es : List Event) → Y es → X es)
    → Extends gs Y → Extends gs X
silent_extends gs Y X h e = λ f ds. record { more = (e f ds).more; is = h _ (e f ds).is }

-- ---- a stack at a token

abbrev FedFits : (List Event → Type 0) → (List Event → Type 0) → Fed → Type 0
FedFits P X (stop is f) = (left : ℕ) → Extends (map (λ (i : RawEvent). (i, left)) is) X
FedFits P X (go is s) = (left : ℕ) (gs : List Given) → Extends gs (Over s P) → Extends (map (λ (i : RawEvent). (i, left)) is ++ gs) X

fed_with : (P Y X : List Event → Type 0) (i : RawEvent) (fed : Fed) → Fits i Y X → Has X
    → FedFits P Y fed → FedFits P X (with_item i fed)
fed_with P Y X i (stop is f) h s k = λ left. item_extends i left (map (λ (j : RawEvent). (j, left)) is) Y X h s (k left)
fed_with P Y X i (go is z) h s k = λ left gs e. item_extends i left (map (λ (j : RawEvent). (j, left)) is ++ gs) Y X h s (k left gs e)

fed_taken : (P X : List Event → Type 0) (i : Option RawEvent) (above s : List State)
    → FitsIf i (Over above (Over s P)) X → Has X
    → FedFits P X (given_by (record { item = i; above = above }) s)
fed_taken P X None above s h k = λ left gs e. silent_extends gs (Over above (Over s P)) X h (subst (λ (Q : List Event → Type 0). Extends gs Q) (over_both above s P) e)
fed_taken P X (Some i) above s h k = λ left gs e. item_extends i left gs (Over above (Over s P)) X h k (subst (λ (Q : List Event → Type 0). Extends gs Q) (over_both above s P) e)

-- a document that begins with its root
opened_fits : (P : List Event → Type 0) (x : State) (t : Token) (s : List State) → Has P
    → choice_at x (type_of t.body) ≡ Open
    → FedFits P (ToGive x (Over s P)) (turn Open x t s (feed s t))
opened_fits P x t s h e =
    let Q : List Event → Type 0 = Over (state.document_end ∷ state.documents ∷ s) P in
    let root : Taken = taken_at (state.optional Root t.start_mark) t in
    fed_with P (Node Q) (ToGive x (Over s P)) (item_at (item.document true) t.start_mark t.start_mark)
    (given_by root (state.document_end ∷ state.documents ∷ s))
    (λ v ds es k. opening_fits x (type_of t.body) (Over s P) e _ (document_more v ds true t.start_mark t.start_mark (Over s P) es k))
    (state_has x (Over s P) (stack_has s P h))
    (fed_taken P (Node Q) root.item root.above (state.document_end ∷ state.documents ∷ s)
    (node_fits (wants_of Root) t.start_mark t.end_mark t.body Q)
    (state_has (state.optional Root t.start_mark) Q (stack_has (state.document_end ∷ state.documents ∷ s) P h)))

turn_fits : (P : List Event → Type 0) (c : Choice) (x : State) (t : Token) (s : List State) → Has P
    → choice_at x (type_of t.body) ≡ c → FedFits P (Over s P) (feed s t)
    → FedFits P (ToGive x (Over s P)) (turn c x t s (feed s t))
turn_fits P (Refuse p o) x t s h e k = λ left. none_extends (ToGive x (Over s P)) (state_has x (Over s P) (stack_has s P h))
turn_fits P Take x t s h e k = fed_taken P (ToGive x (Over s P)) (taken_at x t).item (taken_at x t).above s (taking_fits x t (Over s P) e) (state_has x (Over s P) (stack_has s P h))
turn_fits P Leave x t s h e k =
    fed_with P (Over s P) (ToGive x (Over s P)) (left_at x t.start_mark) (feed s t) (leaving_fits x (type_of t.body) t.start_mark (Over s P) (leave_rule x (type_of t.body) e)) (state_has x (Over s P) (stack_has s P h)) k
turn_fits P Open x t s h e k = opened_fits P x t s h e

feed_fits : (P : List Event → Type 0) (s : List State) (t : Token) → Has P
    → FedFits P (Over s P) (feed s t)
unfolding feed
feed_fits P [] t h = λ left gs e. e
feed_fits P (x ∷ s) t h = turn_fits P (choice_at x (type_of t.body)) x t s h refl (feed_fits P s t h)

-- ---- a list of tokens

carry_fits : (P X : List Event → Type 0) (left : ℕ) (fed : Fed) (k : List State → Outcome)
    → FedFits P X fed → ((s : List State) → Extends (k s).items (Over s P))
    → Extends (carry left fed k).items X
carry_fits P X left fed k h e = grind arith

ending_fits : (P : List Event → Type 0) (s : List State) (f : Fault) → Has P
    → Extends (ending_at s f).items (Over s P)
ending_fits P s f h = grind (arith, none_extends, stack_has)

run_fits : (P : List Event → Type 0) (ts : List Token) (s : List State) (f : Option Fault) → Has P
    → Extends (run ts s f).items (Over s P)
unfolding run
run_fits P [] s (Some f) h = ending_fits P s f h
run_fits P [] s None h = carry_fits P (Over s P) 0 (feed s no_token) (λ z. finished) (feed_fits P s no_token h) (λ z. none_extends (Over z P) (stack_has z P h))
run_fits P (t ∷ ts) s f h = carry_fits P (Over s P) (length ts) (feed s t) (λ z. run ts z f) (feed_fits P s t h) (λ z. run_fits P ts z f h)

-- ---- the loads

abbrev NoMore : List Event → Type 0
NoMore es = es ≡ []

before_end : (ds : List DocumentContent) (last : Event) (rest : List Event) → rest ≡ []
    → documents_before ds (last ∷ rest) ≡ contents_events ds last
before_end [] last rest e = ap (λ (z : List Event). last ∷ z) e
before_end (d ∷ ds) last rest e = ap (λ (z : List Event). document_events d z) (before_end ds last rest e)

documents_load : (outside gs : List Told) (more : List Event) (own : Option Fault) (count : ℕ)
    → AreOutside outside → Documents NoMore (told_events gs ++ more)
    → LoadsByContent own count (outside ++ gs)
documents_load outside gs more own count o h = grind (arith, by_content, before_end)

abbrev last_event : Event
last_event = spanning event.stream_end zero_mark zero_mark

none_load : (gs : List Told) (more : List Event) (own : Option Fault) (count : ℕ)
    → told_events gs ++ more ≡ [] → LoadsByContent own count gs
none_load [] more own count e = by_content [] last_event tt [] [] (last_event ∷ []) own count tt refl
none_load (g ∷ gs) more own count e = absurd (cc)

stream_loads : (gs : List Told) (more : List Event) (own : Option Fault) (count : ℕ)
    → Stream NoMore (told_events gs ++ more) → LoadsByContent own count gs
stream_loads [] more own count h = none_load [] [] own count refl
stream_loads (g ∷ gs) more own count h =
    let e : told_events (g ∷ gs) ++ more ≡ at_span (event.stream_start h.part.0) h.part.1 ∷ h.rest = h.same in
    let p : at_span (event.stream_start h.part.0) h.part.1 ≡ g.0 = cc in
    let q : h.rest ≡ told_events gs ++ more = cc in
    documents_load (g ∷ []) gs more own count (subst (λ (x : Event). IsOutside x.body) p tt, tt) (subst (Documents NoMore) q h.goes)

stack_loads : (s : List State) (gs : List Told) (more : List Event) (own : Option Fault) (count : ℕ)
    → IsStack s → is_between s ≡ true → Over s NoMore (told_events gs ++ more)
    → LoadsByContent own count gs
stack_loads [] gs more own count i b h = none_load gs more own count h
stack_loads (state.stream ∷ s) gs more own count i b h = stream_loads gs more own count (subst (λ (z : List State). Stream (Over z NoMore) (told_events gs ++ more)) i h)
stack_loads (state.first ∷ s) gs more own count i b h = documents_load [] gs more own count tt (subst (λ (z : List State). Documents (Over z NoMore) (told_events gs ++ more)) i h)
stack_loads (state.documents ∷ s) gs more own count i b h = documents_load [] gs more own count tt (subst (λ (z : List State). Documents (Over z NoMore) (told_events gs ++ more)) i h)
stack_loads (_ ∷ s) gs more own count i b h = absurd (cc)

-- Each load of what is given between documents is one that content says.
pub run_loads : (ts : List Token) (s : List State) (f : Option Fault) (ds : Directives)
    (own : Option Fault) (count : ℕ) → IsStack s → is_between s ≡ true
    → LoadsByContent own count (reading_of (run ts s f) ds).events
run_loads ts s f ds own count i b =
    let e = run_fits NoMore ts s f (record { given = []; is = refl }) (run ts s f).ending ds in
    stack_loads s (reading_of (run ts s f) ds).events e.more own count i b e.is
