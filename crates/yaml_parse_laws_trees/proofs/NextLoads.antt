-- What a load comes to by content is what it comes to by the loader's steps.
use Rattle.std.proofs.Common.{◌≡◌, ◌⊎◌, ◌<◌, ◌≤◌, ◌+◌, ℕ, suc, ℤ, inl, inr, Bool, true, false, ◌||◌, cond, List, [], ◌∷◌, ◌++◌, length, Option, Some, None, Result, Ok, refl, sym, ap, subst, ◌∙◌, arith}
use Rattle.yaml_parse_laws_trees.proofs.Words.{append-nil, nat_cmp, slice_cmp, nat_list_cmp_total, yaml_mark_t, Fault, IsMemoryFault, HasMore, Event, EventBody, Document, Told, ParserRemaining, Anchors, is_same, spanning, Contents, alias, scalar, sequence, mapping, no_items, item, no_pairs, pair, events, item_events, pair_events, DocumentContent, document_events, document_of, Loading, LoadStep, goes_on, loaded, nothing_loaded, named, closed, aliased, step, load, behind, told_events, left_behind, names_behind, wrong_alias, or_later, first_wrong, IsOutside, AreOutside, NoneNext, LoadsByContent, one_more, ended, scan_layers, step_body, is_among, and_anchor, unless_known, NextLoad, next_document, next_fault, next_none, IsLoadOf, IsNextLoad, GivesLoad, load_unasked, IsRefusalOf, RefusesNext, LoadIsNext, RefusalIsNext, AreLoadsByContent}
use Rattle.std.specs.FinMap as map
use Rattle.yaml_parse_laws_trees.specs.parse_grammar.parse_model.Events as event
use Rattle.yaml_parse_laws_trees.specs.parse_grammar.parse_model.Prefix.{no_fault}
use Rattle.yaml_parse_loader.specs.Numbering.{Content, Pairs}
use Rattle.yaml_parse_loader.specs.Loading.{Open, refused, turn}
use Rattle.yaml_parse_loader.specs.Loading as loading
use Rattle.yaml_parse_loader.proofs.Loads as numbering
use Rattle.yaml_parse_laws_trees.specs.NextLoad as next
use Rattle.yaml_parse_laws_trees.proofs.ByStep as told
use Rattle.yaml_parse_laws_trees.proofs.ByStep.{Loads, load_on, behind_all, loads, loads_of, unasked_on, unasked_at_refusal, unasked_of, unasked_by, answer_unasked, LoadGives, LoadRefuses}

-- ---- inside of a document

abbrev pub IsInner : EventBody → Type 0
IsInner (event.document_start version directives implicit) = ⊥
IsInner (event.document_end implicit) = ⊥
IsInner _ = Unit {0}

abbrev pub AreInner : List Event → Type 0
AreInner [] = Unit {0}
AreInner (e ∷ es) = IsInner e.body × AreInner es

-- whatever has events before it, and one more, has inner ones there
abbrev pub InnerFronts : List Event → Type 0
InnerFronts es = (xs : List Event) (y : Event) (ys : List Event) → es ≡ xs ++ y ∷ ys → AreInner xs

inner_more : (e : Event) (es : List Event) → IsInner e.body → InnerFronts es → InnerFronts (e ∷ es)
inner_more e es h k [] y ys p = tt
inner_more e es h k (x ∷ xs) y ys p = grind arith

inner_last : (e : Event) → InnerFronts (e ∷ [])
inner_last e [] y ys p = tt
inner_last e (x ∷ []) y ys p = absurd (cc)
inner_last e (x ∷ z ∷ xs) y ys p = absurd (cc)

mutual
  inner_content : (c : Content) (rest : List Event) → InnerFronts rest → InnerFronts (events c rest)
  inner_content (sequence head implicit style items at) rest h = inner_more _ _ tt (inner_items items _ (inner_more _ rest tt h))
  inner_content (mapping head implicit style pairs at) rest h = inner_more _ _ tt (inner_pairs pairs _ (inner_more _ rest tt h))
  inner_content _ rest h = inner_more _ rest tt h

  inner_items : (cs : Contents) (rest : List Event) → InnerFronts rest
      → InnerFronts (item_events cs rest)
  inner_items no_items rest h = h
  inner_items (item c more) rest h = inner_content c (item_events more rest) (inner_items more rest h)

  inner_pairs : (cs : Pairs) (rest : List Event) → InnerFronts rest
      → InnerFronts (pair_events cs rest)
  inner_pairs no_pairs rest h = h
  inner_pairs (pair key value more) rest h = inner_content key (events value (pair_events more rest)) (inner_content value (pair_events more rest) (inner_pairs more rest h))

-- ---- the names that the loader knows

abbrev pub is_there : Option ℤ → Bool
is_there None = false
is_there (Some n) = true

abbrev pub Knows : Anchors → List (List ℕ) → Type 0
Knows known names = (name : List ℕ) → is_there (map.get known name) ≡ is_among name names

pub knows_nothing : Knows map.empty []
knows_nothing name = ap is_there (map.get-empty (slice_cmp nat_cmp) name)

there_on : (b : Bool) (n : ℤ) (o : Option ℤ) → is_there (cond b (Some n) o) ≡ b || is_there o
there_on b n o = grind arith

knows_more : (anchor : Option (List ℕ)) (n : ℤ) (known : Anchors) (names : List (List ℕ))
    → Knows known names → Knows (named anchor n known) (and_anchor anchor names)
knows_more None n known names k = k
knows_more (Some x) n known names k = λ name.
    ap is_there (map.get-insert nat_list_cmp_total known x n name)
    ∙ there_on (is_same name x) n (map.get known name)
    ∙ ap (λ (b : Bool). is_same name x || b) (k name)

-- ---- one event of a document

-- it goes on, or the alias is the first that is wrong
abbrev pub Inner : LoadStep → Option Fault → List (List ℕ) → Type 0
Inner (goes_on m) wrong names = (wrong ≡ None) × Knows m.anchors names
Inner (loaded d) wrong names = ⊥
Inner (refused f) wrong names = wrong ≡ Some f

aliased_inner : (o : Option ℤ) (b : Bool) (at : yaml_mark_t) (l : Loading) (names : List (List ℕ))
    → Knows l.anchors names → is_there o ≡ b → Inner (aliased o at l) (unless_known b at) names
aliased_inner o b at l names k e = grind arith

closed_inner : (to : yaml_mark_t) (l : Loading) (os : List Open) (names : List (List ℕ))
    → Knows l.anchors names → Inner (goes_on (closed to l os)) None names
closed_inner to l os names k = grind arith

pub inner_step : (b : EventBody) (from to : yaml_mark_t) (l : Loading) (names : List (List ℕ))
    → IsInner b → Knows l.anchors names
    → Inner (step_body b from to l) (wrong_alias b from names) (names_behind b names)
inner_step b from to l names h k = grind (arith, aliased_inner, knows_more, closed_inner)

-- ---- a front of a document

-- the fault of the first wrong alias comes first, and the number that goes with it
abbrev RefusedAt : Loads → ℕ → Fault × ℕ → Type 0
RefusedAt r count w = (r ≡ told.faulty w.0) × (count ≡ w.1)

-- nothing is wrong, and what is after comes
abbrev EndsAt : Loads → ℕ → Option Fault → ℕ → Type 0
EndsAt r count f behind = (r ≡ behind_all f) × (count ≡ behind)

-- ---- a front of a document's content

abbrev pub start_event : DocumentContent → Event
start_event d = spanning (event.document_start d.version d.directives d.start_implicit) d.start_at.start_mark d.start_at.end_mark

abbrev pub end_event : DocumentContent → Event
end_event d = spanning (event.document_end d.end_implicit) d.end_at.start_mark d.end_at.end_mark

abbrev pub started_by : DocumentContent → Loading
started_by d = loading.started d.version d.directives d.start_implicit d.start_at.start_mark

pub inner_front : (d : DocumentContent) (gs : List Told) (y : Event) (ys : List Event)
    → events d.root (end_event d ∷ []) ≡ told_events gs ++ y ∷ ys → AreInner (told_events gs)
inner_front d gs y ys e = inner_content d.root (end_event d ∷ []) (inner_last (end_event d)) (told_events gs) y ys e

-- An answer and the number beside it, for a front of a document before others: what the first wrong alias makes of them where
-- there is one, else what the others do.
module _ (R : Loads → ℕ → Type 0) (o : Option (Fault × ℕ)) (left : List Told) (f : Option Fault)
    (behind : ℕ) (wrong_is : (e : Fault) (n : ℕ) → Some (e, n) ≡ o → R (told.faulty e) n)
    (left_is : (m : Loading) → None ≡ o → R (loads left f m) (unasked_at_refusal left behind m)) where
  met_on : (fed : LoadStep) (wrong : Option Fault) (names : List (List ℕ))
      (later : Option (Fault × ℕ)) (go : Loading → Loads) (count : Loading → ℕ)
      (rest : List Told) (n : ℕ) → Inner fed wrong names → or_later wrong n later ≡ o
      → ((m : Loading) → Knows m.anchors names → later ≡ o → R (go m) (count m))
      → R (load_on fed go rest n) (unasked_on fed n count)
  met_on (goes_on m) wrong names later go count rest n i e h = h m i.1 (ap (λ (z : Option Fault). or_later z n later) (sym i.0) ∙ e)
  met_on (loaded d) wrong names later go count rest n i e h = absurd i
  met_on (refused g) wrong names later go count rest n i e h = wrong_is g n (ap (λ (z : Option Fault). or_later z n later) (sym i) ∙ e)

  inner_met : (gs : List Told) (l : Loading) (names : List (List ℕ)) → AreInner (told_events gs)
      → Knows l.anchors names → first_wrong gs names ≡ o
      → R (loads (gs ++ left) f l) (unasked_at_refusal (gs ++ left) behind l)
  unfolding loads unasked_at_refusal first_wrong
  inner_met [] l names h k e = left_is l e
  inner_met (g ∷ gs) l names h k e =
      met_on (step g.0 l) (wrong_alias g.0.body g.0.start_mark names) (names_behind g.0.body names) (first_wrong gs (names_behind g.0.body names))
      (loads (gs ++ left) f) (unasked_at_refusal (gs ++ left) behind) (gs ++ left) g.1
      (inner_step g.0.body g.0.start_mark g.0.end_mark l names h.0 k) e
      (λ m c p. inner_met gs m (names_behind g.0.body names) h.1 c p)

  abbrev FrontMet : List Told → Type 0
  FrontMet gs = first_wrong gs [] ≡ o → R (loads (gs ++ left) f nothing_loaded) (unasked_at_refusal (gs ++ left) behind nothing_loaded)

  begun_met : (d : DocumentContent) (n : ℕ) (gs : List Told) → AreInner (told_events gs)
      → FrontMet ((start_event d, n) ∷ gs)
  unfolding loads unasked_at_refusal first_wrong
  begun_met d n gs h k = inner_met gs (started_by d) [] h knows_nothing k

  front_met : (d : DocumentContent) (gs : List Told) (y : Event) (ys : List Event)
      → document_events d [] ≡ told_events gs ++ y ∷ ys → FrontMet gs
  unfolding first_wrong
  front_met d [] y ys e k = left_is nothing_loaded k
  front_met d (g ∷ gs) y ys e k =
      let first : start_event d ≡ g.0 = cc in
      let others : events d.root (end_event d ∷ []) ≡ told_events gs ++ y ∷ ys = cc in
      subst (λ (x : Event). FrontMet ((x, g.1) ∷ gs)) first (begun_met d g.1 gs (inner_front d gs y ys others)) k

front_wrong : (d : DocumentContent) (gs left : List Told) (y : Event) (ys : List Event)
    (f : Option Fault) (behind : ℕ) (w : Fault × ℕ)
    → document_events d [] ≡ told_events gs ++ y ∷ ys → first_wrong gs [] ≡ Some w
    → RefusedAt (loads (gs ++ left) f nothing_loaded)
    (unasked_at_refusal (gs ++ left) behind nothing_loaded) w
front_wrong d gs left y ys f behind w e k =
    front_met (λ r n. RefusedAt r n w) (Some w) left f behind
    (λ g n p. let q : (g, n) ≡ w = cc in (ap (λ (x : Fault × ℕ). told.faulty x.0) q, ap (λ (x : Fault × ℕ). x.1) q)) (λ m p. absurd (cc)) d gs y ys e k

front_right : (d : DocumentContent) (gs : List Told) (y : Event) (ys : List Event)
    (f : Option Fault) (behind : ℕ) → document_events d [] ≡ told_events gs ++ y ∷ ys
    → first_wrong gs [] ≡ None
    → EndsAt (loads gs f nothing_loaded) (unasked_at_refusal gs behind nothing_loaded) f behind
unfolding loads unasked_at_refusal
front_right d gs y ys f behind e k =
    subst (λ (z : List Told). EndsAt (loads z f nothing_loaded) (unasked_at_refusal z behind nothing_loaded) f behind) (append-nil gs)
    (front_met (λ r n. EndsAt r n f behind) None [] f behind (λ g n p. absurd (cc)) (λ m p. (refl, refl)) d gs y ys e k)

-- ---- events of no document

outside_step : (b : EventBody) (from to : yaml_mark_t) (l : Loading) → IsOutside b
    → step_body b from to l ≡ goes_on l
outside_step b from to l h = grind arith

outside_loads : (os gs : List Told) (f : Option Fault) (l : Loading) → AreOutside os
    → loads (os ++ gs) f l ≡ loads gs f l
unfolding loads
outside_loads [] gs f l h = refl
outside_loads (o ∷ os) gs f l h = grind (arith, outside_step, outside_loads os gs f l h.1)

outside_unasked : (os gs : List Told) (behind : ℕ) (l : Loading) → AreOutside os
    → unasked_at_refusal (os ++ gs) behind l ≡ unasked_at_refusal gs behind l
unfolding unasked_at_refusal
outside_unasked [] gs behind l h = refl
outside_unasked (o ∷ os) gs behind l h = grind (arith, outside_step, outside_unasked os gs behind l h.1)

-- ---- a whole document

longer : (gs left : List Told)
    → length (told_events (gs ++ left)) ≡ length gs + length (told_events left)
longer [] left = omega arith
longer (g ∷ gs) left = omega (arith, longer gs left)

less_on : (fed : LoadStep) (es rest : List Event) (d : Document)
    → ((m : Loading) → load es m ≡ loading.document d rest → length rest < length es)
    → turn fed (load es) es ≡ loading.document d rest → length rest < suc (length es)
less_on fed es rest d h e = grind arith

loads_less : (es rest : List Event) (l : Loading) (d : Document)
    → load es l ≡ loading.document d rest → length rest < length es
unfolding load
loads_less [] rest l d e = absurd (cc)
loads_less (x ∷ es) rest l d e = less_on (step x l) es rest d (λ m h. loads_less es rest m d h) e

last_event : (gs left : List Told) (n : ℕ) (f : Option Fault) (d : Document)
    → told_events (gs ++ left) ≡ told_events left
    → told.document d (gs ++ left) n ≡ told.document d left (left_behind gs n)
unfolding left_behind
last_event [] left n f d e = refl
last_event (g ∷ gs) left n f d e =
    let p : length (told_events ((g ∷ gs) ++ left)) ≡ length (told_events left) = ap (λ (xs : List Event). length xs) e in
    let q : length (told_events ((g ∷ gs) ++ left)) ≡ suc (length gs) + length (told_events left) = longer (g ∷ gs) left in
    absurd (omega arith)

whole_on : (fed : LoadStep) (gs left : List Told) (n : ℕ) (f : Option Fault) (d : Document)
    → ((m : Loading) → load (told_events (gs ++ left)) m ≡ loading.document d (told_events left)
    → loads (gs ++ left) f m ≡ told.document d left (left_behind gs n))
    → turn fed (load (told_events (gs ++ left))) (told_events (gs ++ left))
    ≡ loading.document d (told_events left)
    → load_on fed (loads (gs ++ left) f) (gs ++ left) n ≡ told.document d left (left_behind gs n)
whole_on (goes_on m) gs left n f d h e = h m e
whole_on (loaded c) gs left n f d h e =
    let p : c ≡ d = cc in
    let q : told_events (gs ++ left) ≡ told_events left = cc in
    ap (λ (x : Document). told.document x (gs ++ left) n) p ∙ last_event gs left n f d q
whole_on (refused g) gs left n f d h e = absurd (cc)

whole_loads : (gs left : List Told) (n : ℕ) (f : Option Fault) (l : Loading) (d : Document)
    → load (told_events (gs ++ left)) l ≡ loading.document d (told_events left)
    → loads (gs ++ left) f l ≡ told.document d left (left_behind gs n)
unfolding load loads left_behind
whole_loads [] left n f l d e = let h : length (told_events left) < length (told_events left) = loads_less (told_events left) (told_events left) l d e in absurd (omega arith)
whole_loads (g ∷ gs) left n f l d e = whole_on (step g.0 l) gs left g.1 f d (λ m h. whole_loads gs left g.1 f m d h) e

document_loads : (gs left : List Told) (f : Option Fault) (c : DocumentContent) (d : Document)
    → told_events (gs ++ left) ≡ document_events c (told_events left) → document_of c ≡ Ok d
    → loads (gs ++ left) f nothing_loaded ≡ told.document d left (left_behind gs 0)
document_loads gs left f c d e k =
    whole_loads gs left 0 f nothing_loaded d
    (ap (λ (es : List Event). load es nothing_loaded) e ∙ numbering.loads_document c (told_events left) nothing_loaded ∙ ap (λ (r : Result Document Fault). behind r (λ x. loading.document x (told_events left))) k)

-- ---- the next load

abbrev pub IsOf : NextLoad → Loads → ℕ → Type 0
IsOf (next_document e left count) r u = r ≡ told.document e left count
IsOf (next_fault f count) r u = (r ≡ told.faulty f) × (u ≡ count)
IsOf next_none r u = r ≡ told.nothing

split_loads : (c : ParserRemaining) (os gs : List Told) → c.events ≡ os ++ gs → AreOutside os
    → loads_of c ≡ loads gs c.ending nothing_loaded
split_loads c os gs e h = ap (λ (xs : List Told). loads xs c.ending nothing_loaded) e ∙ outside_loads os gs c.ending nothing_loaded h

split_unasked : (c : ParserRemaining) (os gs : List Told) → c.events ≡ os ++ gs → AreOutside os
    → unasked_of c ≡ unasked_at_refusal gs c.ending_unasked nothing_loaded
split_unasked c os gs e h = ap (λ (xs : List Told). unasked_at_refusal xs c.ending_unasked nothing_loaded) e ∙ outside_unasked os gs c.ending_unasked nothing_loaded h

pub no_rest : (gs : List Told) → gs ++ [] ≡ gs
no_rest [] = refl
no_rest (g ∷ gs) = ap (λ (xs : List Told). g ∷ xs) (no_rest gs)

none_loads : (c : ParserRemaining) (h : NoneNext c.events)
    → (loads_of c ≡ behind_all c.ending) × (unasked_of c ≡ c.ending_unasked)
none_loads c h =
    let n = h.next in
    let e = front_right n.content h.told n.following n.more c.ending c.ending_unasked n.front h.right in
    let s = ap (λ (xs : List Told). n.outside ++ xs) (no_rest h.told) in
    (split_loads c n.outside h.told (n.split ∙ s) n.none ∙ e.0, split_unasked c n.outside h.told (n.split ∙ s) n.none ∙ e.1)

pub next_is : (c : ParserRemaining) (n : NextLoad) → IsNextLoad c n
    → IsOf n (loads_of c) (unasked_of c)
next_is c (next_document e left count) h =
    let n = h.next in
    split_loads c n.outside (n.told ++ left) n.split n.none
    ∙ document_loads n.told left c.ending h.content e n.events h.numbered
    ∙ ap (λ (k : ℕ). told.document e left k) (sym n.count)
next_is c (next_fault f count) (inl h) =
    let n = h.next in
    let e = front_wrong n.content h.told h.left n.following n.more c.ending c.ending_unasked (f, count) n.front h.first in
    (split_loads c n.outside (h.told ++ h.left) n.split n.none ∙ e.0, split_unasked c n.outside (h.told ++ h.left) n.split n.none ∙ e.1)
next_is c (next_fault f count) (inr h) =
    let e = none_loads c h.0 in
    (e.0 ∙ ap behind_all h.1.0, e.1 ∙ sym h.1.1)
next_is c next_none h = (none_loads c h.0).0 ∙ ap behind_all h.1

-- The load that is said of the events is the next that the loader has.
pub load_is : (gs : List Told) (own : Option Fault) (behind : ℕ) (n : NextLoad)
    → IsLoadOf gs own behind n
    → IsOf n (loads gs own nothing_loaded) (unasked_at_refusal gs behind nothing_loaded)
load_is gs own behind n h = next_is (record { events = gs; ending = own; ending_unasked = behind; unasked = 0; held = 0; between = true; answered = no_fault }) n h

gives_of : (n : NextLoad) (r : Loads) (u : ℕ) (d : Document) (old new : ParserRemaining)
    → IsOf n r u → LoadGives r d old new → GivesLoad n d old new
gives_of n r u d old new p h = grind arith

-- A document that a load gives is the next one of the events to come.
pub load_is_next : (old new : ParserRemaining) (d : Document) → LoadGives (loads_of old) d old new
    → LoadIsNext old d new
load_is_next old new d h n k = gives_of n (loads_of old) (unasked_of old) d old new (next_is old n k) h

refusal_of : (n : NextLoad) (r : Loads) (u m : ℕ) (f : Fault) → IsOf n r u → r ≡ told.faulty f
    → m ≡ u → IsRefusalOf n f m
refusal_of n r u m f p q v = grind arith

unasked_is : (n : NextLoad) (r : Loads) (u : ℕ) (old : ParserRemaining) → IsOf n r u
    → unasked_by r u (left_behind old.events old.unasked) ≡ load_unasked n old
unasked_is n r u old p = grind arith

-- A fault that a load reports is that of the next document, unless memory ran out.
pub refusal_is_next : (old new : ParserRemaining) (f : Fault) → LoadRefuses f old new
    → HasMore old.events old.ending
    → IsMemoryFault scan_layers f ⊎ (answer_unasked old ≤ new.unasked) → RefusalIsNext old f new
refusal_is_next old new f h m a n k = grind (arith, unasked_is, next_is, refusal_of)

-- ---- and by the loader's steps it is what content says

pub record SomeLoad (own : Option Fault) (behind : ℕ) (gs : List Told) : Type 0 where
  pub load : NextLoad
  pub is : IsLoadOf gs own behind load

-- the first of the loads
pub next_load : (own : Option Fault) (behind : ℕ) (gs : List Told) → LoadsByContent own behind gs
    → SomeLoad own behind gs
next_load own behind gs (one_more hs left e unasked h more) = record { load = next_document e left unasked; is = h }
next_load own behind gs (next.refused hs f unasked h) = record { load = next_fault f unasked; is = h }
next_load own behind gs (ended hs h) = record { load = next_none; is = h }

gives_steps : (n : NextLoad) (r : Loads) (u : ℕ) (d : Document) (old new : ParserRemaining)
    → IsOf n r u → GivesLoad n d old new → LoadGives r d old new
gives_steps n r u d old new p h = grind arith

pub load_gives : (old new : ParserRemaining) (d : Document) → AreLoadsByContent old
    → LoadIsNext old d new → LoadGives (loads_of old) d old new
load_gives old new d h k = grind (arith, next_load, gives_steps, next_is)

refuses_steps : (n : NextLoad) (r : Loads) (u m : ℕ) (f : Fault) → IsOf n r u → IsRefusalOf n f m
    → (r ≡ told.faulty f) × (m ≡ u)
refuses_steps n r u m f p h = grind arith

pub load_refuses : (old new : ParserRemaining) (f : Fault) → AreLoadsByContent old
    → RefusalIsNext old f new → LoadRefuses f old new
load_refuses old new f h k = grind (arith, next_load, refuses_steps, next_is)
