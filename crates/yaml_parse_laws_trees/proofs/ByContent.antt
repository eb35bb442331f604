-- Each load of a front of a stream of documents is one that content says.
use Rattle.std.proofs.Common.{◌≡◌, ℕ, true, List, [], ◌∷◌, ◌++◌, Option, Some, None, Result, Ok, refl, sym, ap, subst, ◌∙◌, append_assoc, inl, inr, arith}
use Rattle.yaml_parse_laws_trees.proofs.Words.{Fault, zero_mark, Event, Document, Told, spanning, Contents, alias, sequence, mapping, no_items, item, no_pairs, pair, events, item_events, pair_events, DocumentContent, document_events, document_of, Loading, LoadStep, goes_on, loaded, nothing_loaded, step, load, behind, told_events, left_behind, names_behind, wrong_alias, or_later, first_wrong, IsOutside, AreOutside, NoneNext, LoadsByContent, one_more, ended, contents_events, FrontsLoadByContent}
use Rattle.yaml_parse_laws_trees.specs.parse_grammar.parse_model.Events as event
use Rattle.yaml_parse_loader.specs.Numbering.{Span, Content, Pairs}
use Rattle.yaml_parse_loader.specs.Loading.{refused, turn}
use Rattle.yaml_parse_loader.specs.Loading as loading
use Rattle.yaml_parse_loader.proofs.Loads as numbering
use Rattle.yaml_parse_laws_trees.specs.NextLoad as next
use Rattle.yaml_parse_laws_trees.proofs.NextLoads.{AreInner, Knows, Inner, start_event, end_event, started_by, knows_nothing, inner_step, inner_front, no_rest}

-- ---- events before others

mutual
  events_more : (c : Content) (xs ys : List Event) → events c (xs ++ ys) ≡ events c xs ++ ys
  events_more (sequence h implicit style items at) xs ys = ap (λ (z : List Event). spanning (event.sequence_start h.anchor h.tag implicit style) h.start_mark h.end_mark ∷ z) (items_more items (spanning event.sequence_end at.start_mark at.end_mark ∷ xs) ys)
  events_more (mapping h implicit style pairs at) xs ys = ap (λ (z : List Event). spanning (event.mapping_start h.anchor h.tag implicit style) h.start_mark h.end_mark ∷ z) (pairs_more pairs (spanning event.mapping_end at.start_mark at.end_mark ∷ xs) ys)
  events_more _ xs ys = refl

  items_more : (cs : Contents) (xs ys : List Event)
      → item_events cs (xs ++ ys) ≡ item_events cs xs ++ ys
  items_more no_items xs ys = refl
  items_more (item c more) xs ys = ap (events c) (items_more more xs ys) ∙ events_more c (item_events more xs) ys

  pairs_more : (cs : Pairs) (xs ys : List Event)
      → pair_events cs (xs ++ ys) ≡ pair_events cs xs ++ ys
  pairs_more no_pairs xs ys = refl
  pairs_more (pair key value more) xs ys =
      ap (λ (z : List Event). events key (events value z)) (pairs_more more xs ys)
      ∙ ap (events key) (events_more value (pair_events more xs) ys)
      ∙ events_more key (events value (pair_events more xs)) ys

-- a document's events except for its last
abbrev open_events : DocumentContent → List Event
open_events d = start_event d ∷ events d.root []

document_open : (d : DocumentContent) (rest : List Event)
    → document_events d rest ≡ open_events d ++ end_event d ∷ rest
document_open d rest = ap (λ (z : List Event). start_event d ∷ z) (events_more d.root [] (end_event d ∷ rest))

told_more : (xs ys : List Told) → told_events (xs ++ ys) ≡ told_events xs ++ told_events ys
told_more [] ys = refl
told_more (x ∷ xs) ys = ap (λ (z : List Event). x.0 ∷ z) (told_more xs ys)

-- ---- where the events end

data Split (gs : List Told) (more xs rest : List Event) : Type 0 where
  short : (y : Event) (ys : List Event) → xs ≡ told_events gs ++ y ∷ ys → Split gs more xs rest
  whole : (own left : List Told) → gs ≡ own ++ left → told_events own ≡ xs
      → told_events left ++ more ≡ rest → Split gs more xs rest

split_on : (x : Event) (xs : List Event) (g : Told) (gs : List Told) (more rest : List Event)
    → g.0 ≡ x → Split gs more xs rest → Split (g ∷ gs) more (x ∷ xs) rest
split_on x xs g gs more rest p (short y ys h) = short y ys (ap (λ (z : Event). z ∷ xs) (sym p) ∙ ap (λ (z : List Event). g.0 ∷ z) h)
split_on x xs g gs more rest p (whole own left a b c) =
    whole (g ∷ own) left (ap (λ (z : List Told). g ∷ z) a) (ap (λ (z : Event). z ∷ told_events own) p ∙ ap (λ (z : List Event). x ∷ z) b) c

split : (xs : List Event) (gs : List Told) (more rest : List Event)
    → told_events gs ++ more ≡ xs ++ rest → Split gs more xs rest
split [] gs more rest e = whole [] gs refl refl e
split (x ∷ xs) [] more rest e = short x xs refl
split (x ∷ xs) (g ∷ gs) more rest e =
    let p : g.0 ≡ x = cc in
    let q : told_events gs ++ more ≡ xs ++ rest = cc in
    split_on x xs g gs more rest p (split xs gs more rest q)

-- ---- where each alias has its anchor, the content is numbered

reach_on : (fed : LoadStep) (wrong : Option Fault) (names : List (List ℕ))
    (later : Option (Fault × ℕ)) (n : ℕ) (xs es : List Event)
    → Inner fed wrong names → or_later wrong n later ≡ None
    → ((k : Loading) → Knows k.anchors names → later ≡ None → (m : Loading)
    × (load xs k ≡ load es m))
    → (m : Loading) × (turn fed (load xs) xs ≡ load es m)
reach_on (goes_on k) wrong names later n xs es i e h = h k i.1 (ap (λ (o : Option Fault). or_later o n later) (sym i.0) ∙ e)
reach_on (loaded d) wrong names later n xs es i e h = absurd i
reach_on (refused f) wrong names later n xs es i e h = grind arith

reach : (gs : List Told) (es : List Event) (l : Loading) (names : List (List ℕ))
    → AreInner (told_events gs) → Knows l.anchors names → first_wrong gs names ≡ None
    → (m : Loading) × (load (told_events gs ++ es) l ≡ load es m)
unfolding load first_wrong
reach [] es l names h k e = (l, refl)
reach (g ∷ gs) es l names h k e =
    reach_on (step g.0 l) (wrong_alias g.0.body g.0.start_mark names) (names_behind g.0.body names) (first_wrong gs (names_behind g.0.body names)) g.1 (told_events gs ++ es) es
    (inner_step g.0.body g.0.start_mark g.0.end_mark l names h.0 k) e
    (λ m c p. reach gs es m (names_behind g.0.body names) h.1 c p)

is_right : (r : Result Document Fault) (x : Document)
    → behind r (λ e. loading.document e []) ≡ loading.document x [] → (e : Document) × (r ≡ Ok e)
is_right r x h = grind arith

abbrev RightBehind : List Told → Event → ℕ → Type 0
RightBehind gs x n = first_wrong ((x, n) ∷ gs) [] ≡ None → first_wrong gs [] ≡ None

right_behind : (d : DocumentContent) (gs : List Told) (n : ℕ) → RightBehind gs (start_event d) n
unfolding first_wrong
right_behind d gs n e = e

begun : (d : DocumentContent) (m : Loading) (es : List Event)
    → load es (started_by d) ≡ load (end_event d ∷ []) m
    → load (start_event d ∷ es) nothing_loaded
    ≡ loading.document (loading.ended m d.end_implicit d.end_at.end_mark) []
unfolding load
begun d m es e = e

content_numbered : (d : DocumentContent) (gs : List Told) → told_events gs ≡ open_events d
    → first_wrong gs [] ≡ None → (e : Document) × (document_of d ≡ Ok e)
content_numbered d [] b k = absurd (cc)
content_numbered d (g ∷ gs) b k =
    let first : start_event d ≡ g.0 = cc in
    let others : told_events gs ≡ events d.root [] = cc in
    let all : events d.root (end_event d ∷ []) ≡ told_events gs ++ end_event d ∷ [] = events_more d.root [] (end_event d ∷ []) ∙ ap (λ (z : List Event). z ++ end_event d ∷ []) (sym others) in
    let right : first_wrong gs [] ≡ None = subst (λ (x : Event). RightBehind gs x g.1) first (right_behind d gs g.1) k in
    let r = reach gs (end_event d ∷ []) (started_by d) [] (inner_front d gs (end_event d) [] all) knows_nothing right in
    let e = begun d r.0 (events d.root (end_event d ∷ [])) (ap (λ (z : List Event). load z (started_by d)) all ∙ r.1) in
    is_right (document_of d) _ (sym (numbering.loads_document d [] nothing_loaded) ∙ e)

-- ---- the loads

-- no whole document comes any more
none_by : (gs : List Told) (own : Option Fault) (count : ℕ) → NoneNext gs
    → LoadsByContent own count gs
none_by gs None count h = ended gs (h, refl)
none_by gs (Some f) count h = next.refused gs f count (inr (h, (refl, refl)))

-- some alias is wrong, or none
front_on : (o : Option (Fault × ℕ)) (outside gs : List Told) (own : Option Fault) (count : ℕ)
    (d : DocumentContent) (y : Event) (ys : List Event) → first_wrong gs [] ≡ o → AreOutside outside
    → document_events d [] ≡ told_events gs ++ y ∷ ys → LoadsByContent own count (outside ++ gs)
front_on (Some w) outside gs own count d y ys k h e =
    next.refused (outside ++ gs) w.0 w.1 (inl (record {
      told = gs;
      left = [];
      next = record { outside = outside; split = ap (λ (z : List Told). outside ++ z) (sym (no_rest gs)); none = h; content = d; following = y; more = ys; front = e };
      first = k;
    }))
front_on None outside gs own count d y ys k h e = grind (arith, none_by, split, no_rest)

front_by : (outside gs : List Told) (own : Option Fault) (count : ℕ) (d : DocumentContent)
    (y : Event) (ys : List Event) → AreOutside outside
    → document_events d [] ≡ told_events gs ++ y ∷ ys → LoadsByContent own count (outside ++ gs)
front_by outside gs own count d y ys h e = front_on (first_wrong gs []) outside gs own count d y ys refl h e

-- some content: nothing of it comes
abbrev zero_span : Span
zero_span = record { start_mark = zero_mark; end_mark = zero_mark }

abbrev some_content : DocumentContent
some_content = record { version = None; directives = []; start_implicit = true; start_at = zero_span; root = alias [] zero_span; end_implicit = true; end_at = zero_span }

nothing_by : (gs : List Told) (own : Option Fault) (count : ℕ) → AreOutside gs
    → LoadsByContent own count gs
nothing_by gs own count h =
    subst (λ (z : List Told). LoadsByContent own count z) (no_rest gs) (front_by gs [] own count some_content (start_event some_content) (events some_content.root (end_event some_content ∷ [])) h refl)

outside_more : (os : List Told) (g : Told) → AreOutside os → IsOutside g.0.body
    → AreOutside (os ++ g ∷ [])
outside_more [] g h k = (k, tt)
outside_more (o ∷ os) g h k = (h.0, outside_more os g h.1 k)

-- a document's last event comes too
abbrev Others : DocumentContent → List Told → List Event → List Event → Type 0
Others d left more rest = told_events left ++ more ≡ end_event d ∷ rest

whole_on : (o : Option (Fault × ℕ)) (outside own : List Told) (g : Told) (left : List Told)
    (f : Option Fault) (count : ℕ) (d : DocumentContent) → first_wrong own [] ≡ o
    → AreOutside outside → told_events own ≡ open_events d
    → g.0 ≡ end_event d → LoadsByContent f count left
    → LoadsByContent f count (outside ++ (own ++ g ∷ left))
whole_on (Some w) outside own g left f count d k h b p more =
    next.refused (outside ++ (own ++ g ∷ left)) w.0 w.1 (inl (record {
      told = own;
      left = g ∷ left;
      next = record { outside = outside; split = refl; none = h; content = d; following = end_event d; more = []; front = document_open d [] ∙ ap (λ (z : List Event). z ++ end_event d ∷ []) (sym b) };
      first = k;
    }))
whole_on None outside own g left f count d k h b p more =
    let n = content_numbered d own b k in
    let a : (own ++ g ∷ []) ++ left ≡ own ++ g ∷ left = append_assoc own (g ∷ []) left in
    one_more (outside ++ (own ++ g ∷ left)) left n.0 (left_behind (own ++ g ∷ []) 0) (record {
      content = d;
      next = record {
        outside = outside;
        told = own ++ g ∷ [];
        split = ap (λ (z : List Told). outside ++ z) (sym a);
        none = h;
        events = ap told_events a ∙ told_more own (g ∷ left) ∙ ap (λ (z : List Event). z ++ g.0 ∷ told_events left) b ∙ ap (λ (z : Event). open_events d ++ z ∷ told_events left) p ∙ sym (document_open d (told_events left));
        count = refl;
      };
      numbered = n.1;
    }) more

document_on : (outside own left : List Told) (more rest : List Event) (f : Option Fault) (count : ℕ)
    (d : DocumentContent) → AreOutside outside → told_events own ≡ open_events d
    → Others d left more rest
    → ((gs : List Told) → told_events gs ++ more ≡ rest → LoadsByContent f count gs)
    → LoadsByContent f count (outside ++ (own ++ left))
document_on outside own [] more rest f count d h b c go =
    subst (λ (z : List Told). LoadsByContent f count (outside ++ z)) (sym (no_rest own))
    (front_by outside own f count d (end_event d) [] h (document_open d [] ∙ ap (λ (z : List Event). z ++ end_event d ∷ []) (sym b)))
document_on outside own (g ∷ left) more rest f count d h b c go = grind (arith, whole_on)

split_loads : (outside gs : List Told) (more rest : List Event) (f : Option Fault) (count : ℕ)
    (d : DocumentContent) → AreOutside outside → Split gs more (open_events d) (end_event d ∷ rest)
    → ((hs : List Told) → told_events hs ++ more ≡ rest → LoadsByContent f count hs)
    → LoadsByContent f count (outside ++ gs)
split_loads outside gs more rest f count d h (short y ys e) go =
    front_by outside gs f count d y (ys ++ end_event d ∷ []) h
    (document_open d [] ∙ ap (λ (z : List Event). z ++ end_event d ∷ []) e ∙ append_assoc (told_events gs) (y ∷ ys) (end_event d ∷ []))
split_loads outside gs more rest f count d h (whole own left a b c) go = grind (arith, document_on)

pub by_content : FrontsLoadByContent
by_content [] last s outside [] more own count h e = subst (λ (z : List Told). LoadsByContent own count z) (sym (no_rest outside)) (nothing_by outside own count h)
by_content [] last s outside (g ∷ []) more own count h e = grind (arith, nothing_by, outside_more)
by_content [] last s outside (g ∷ (k ∷ gs)) more own count h e = absurd (cc)
by_content (d ∷ ds) last s outside gs more own count h e =
    split_loads outside gs more (contents_events ds last) own count d h
    (split (open_events d) gs more (end_event d ∷ contents_events ds last) (e ∙ document_open d (contents_events ds last)))
    (λ hs k. by_content ds last s [] hs more own count tt k)
