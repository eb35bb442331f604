-- The events that are read of a tree are those that it gives.
use Rattle.std.proofs.Common.{◌≡◌, ℕ, true, false, List, [], ◌∷◌, ◌++◌, length, map, zip, Option, Some, None, refl, ap, sym, subst, ◌∙◌, arith}
use Rattle.yaml_round_content.proofs.Words.{flat_map-append, append_assoc, yaml_encoding_t, BeginsWithSentence, yaml_mark_t, yaml_version_directive_t, Token, Fault, Event, EventBody, TagDirective, Wants, Side, Site, Root, RawEvent, RawEventBody, Properties, Shape, item_at, Span, Given, Directive, Documents, First, Stream, event_at, items_directives, Directives, no_directives, Settled, refused, gave, noted, settle, settle_body, behind_event, with_resolved, resolved, node_event, Told, Reading, read_on, reading, tokens_of, in_full, tags_in, version_in, start_of, placed}
use Rattle.yaml_parse_model.specs.Events as event
use Rattle.yaml_emit_laws.specs.parse_grammar.declared.Brackets.{Brackets}
use Rattle.yaml_emit_laws.specs.parse_grammar.declared.Brackets.TheVariants as brackets
use Rattle.yaml_emit_laws.specs.parse_grammar.Items as item
use Rattle.yaml_emit_laws.specs.parse_grammar.Trees as tree
use Rattle.yaml_emit_laws.specs.parse_grammar.TreeEvents.{node_events, content_events, maybe_events, colon_events, items_events, more_events, entries_events, others_events, pairs_events, pair_opens, pair_closes, lone_value, directives_events, ends_events, documents_events, first_events, tree_events, tree_turns, unasked, given_of, ends_start, documents_start, node_start}
use Rattle.yaml_emit_laws.proofs.LawsTreesTurns.{turns_fit, items_given}
use Rattle.yaml_round_content.specs.TreeTold.{said_under, told_under, documents_told, stream_told, events_in}
use Rattle.yaml_round_content.proofs.Saying.{full_is, not_none}
use Rattle.yaml_round_content.proofs.Documents.{directives, directives_read}
use Rattle.yaml_round_content.specs.Reading.{HasEvents, EventsAreTold}
use Rattle.yaml_round_content.proofs.Joining.{tree_read}
use Rattle.yaml_round_content.proofs.OfText.{tokens_are}
use Rattle.yaml_emit_laws.proofs.Ending.{fault_ends}

-- ---- readings without numbers

record Bare : Type 0 where
  events : List Event
  ending : Option Fault

abbrev bare_on : Settled → RawEvent → (Directives → Bare) → Bare
bare_on (refused f) i k = record { events = []; ending = Some f }
bare_on (gave body ds) i k = record { events = placed body i ∷ (k ds).events; ending = (k ds).ending }
bare_on (noted ds) i k = k ds

bare : List RawEvent → Directives → Bare
bare [] ds = record { events = []; ending = None }
bare (i ∷ is) ds = bare_on (settle i ds) i (λ d. bare is d)

abbrev raw_of : List Given → List RawEvent
raw_of gs = map (λ (g : Given). g.0) gs

abbrev IsBare : Reading → Bare → Type 0
IsBare r q = (events_in r.events ≡ q.events) × (r.ending ≡ q.ending)

on_bare : (s : Settled) (i : RawEvent) (n : ℕ) (k : Directives → Reading) (q : Directives → Bare)
    → ((d : Directives) → IsBare (k d) (q d)) → IsBare (read_on s i n k) (bare_on s i q)
on_bare (refused f) i n k q h = (refl, refl)
on_bare (gave body ds) i n k q h = (ap (λ (es : List Event). placed body i ∷ es) (h ds).0, (h ds).1)
on_bare (noted ds) i n k q h = h ds

is_bare : (gs : List Given) (ds : Directives) → IsBare (reading gs None ds) (bare (raw_of gs) ds)
unfolding bare reading
is_bare [] ds = (refl, refl)
is_bare (g ∷ gs) ds = on_bare (settle g.0 ds) g.0 g.1 (λ d. reading gs None d) (λ d. bare (raw_of gs) d) (λ d. is_bare gs d)

-- ---- what items say, before others

-- where the first has no fault, the second one has none, and the first says these before the second
record Passes (es : List Event) (r q : Bare) : Type 0 where
  right : r.ending ≡ None → q.ending ≡ None
  says : r.ending ≡ None → r.events ≡ es ++ q.events

joined : (es fs : List Event) (r q p : Bare) → Passes es r q → Passes fs q p → Passes (es ++ fs) r p
joined es fs r q p a b = record {
  right = λ e. b.right (a.right e);
  says = λ e. a.says e ∙ ap (λ (xs : List Event). es ++ xs) (b.says (a.right e)) ∙ sym (append_assoc es fs p.events);
}

-- an item that leaves its document's directives
abbrev IsInner : RawEventBody → Type 0
IsInner (item.event body) = (ds : Directives) → behind_event body ds ≡ ds
IsInner (item.version_directive major minor) = ⊥
IsInner (item.tag_directive handle prefix) = ⊥
IsInner (item.document implicit) = Unit {0}
IsInner (item.node anchor tag shape) = Unit {0}

abbrev AreInner : List RawEvent → Type 0
AreInner [] = Unit {0}
AreInner (i ∷ is) = IsInner i.body × AreInner is

resolved_passes : (o : Option (List ℕ)) (full : List ℕ) (anchor : Option (List ℕ)) (shape : Shape)
    (from at : yaml_mark_t) (i : RawEvent) (D : Directives) (k : Directives → Bare)
    → ((x : List ℕ) → o ≡ Some x → x ≡ full)
    → Passes (placed (node_event anchor (Some full) shape) i ∷ [])
    (bare_on (with_resolved o anchor shape from at D) i k) (k D)
resolved_passes None full anchor shape from at i D k h = record { right = λ e. absurd (not_none _ e); says = λ e. absurd (not_none _ e) }
resolved_passes (Some x) full anchor shape from at i D k h = record {
  right = λ e. e;
  says = λ e. ap (λ (z : List ℕ). placed (node_event anchor (Some z) shape) i ∷ (k D).events) (h x refl);
}

item_passes : (body : RawEventBody) (i : RawEvent) (D : Directives) (k : Directives → Bare)
    → IsInner body
    → Passes (map (λ (b : EventBody). placed b i) (said_under D.version D.tags body))
    (bare_on (settle_body body i.from D) i k) (k D)
item_passes (item.event body) i D k h = record {
  right = λ e. subst (λ (d : Directives). (k d).ending ≡ None) (h D) e;
  says = λ e. ap (λ (d : Directives). placed body i ∷ (k d).events) (h D);
}
item_passes (item.version_directive major minor) i D k h = absurd h
item_passes (item.tag_directive handle prefix) i D k h = absurd h
item_passes (item.document implicit) i D k h = record { right = λ e. e; says = λ e. refl }
item_passes (item.node anchor None shape) i D k h = record { right = λ e. e; says = λ e. refl }
item_passes (item.node anchor (Some tag) shape) i D k h =
    resolved_passes (resolved D.tags tag.handle tag.suffix) (in_full D.tags tag.handle tag.suffix) anchor shape i.from tag.mark i D k (λ x e. full_is D.tags tag.handle tag.suffix x e)

inner_passes : (is more : List RawEvent) (D : Directives) → AreInner is
    → Passes (told_under D.version D.tags is) (bare (is ++ more) D) (bare more D)
unfolding bare
inner_passes [] more D h = record { right = λ e. e; says = λ e. refl }
inner_passes (i ∷ is) more D (h, hs) =
    joined (map (λ (b : EventBody). placed b i) (said_under D.version D.tags i.body)) (told_under D.version D.tags is) (bare (i ∷ (is ++ more)) D) (bare (is ++ more) D) (bare more D)
    (item_passes i.body i D (λ d. bare (is ++ more) d) h) (inner_passes is more D hs)

-- a document's end: nothing carries over
ends_pass : (ends : List Span) (next : yaml_mark_t) (more : List RawEvent) (D : Directives)
    → Passes (told_under D.version D.tags (ends_events ends next))
    (bare (ends_events ends next ++ more) D) (bare more no_directives)
unfolding bare
ends_pass [] next more D = record { right = λ e. e; says = λ e. refl }
ends_pass (s ∷ ends) next more D = record { right = λ e. e; says = λ e. refl }

-- ---- parts of a tree leave their document's directives

inner_more : (is js : List RawEvent) → AreInner is → AreInner js → AreInner (is ++ js)
inner_more [] js a b = b
inner_more (i ∷ is) js (h, hs) b = (h, inner_more is js hs b)

start_inner : (p : Option Properties) (shape : Shape) (from to : yaml_mark_t)
    → IsInner (item.node_at p shape from to).body
start_inner None shape from to = tt
start_inner (Some p) shape from to = tt

opens_inner : (b : Brackets) (s : Span) → AreInner (pair_opens b s)
opens_inner brackets.Sequence s = (tt, tt)
opens_inner brackets.Mapping s = tt

closes_inner : (b : Brackets) (next : yaml_mark_t) → AreInner (pair_closes b next)
closes_inner brackets.Sequence next = (λ ds. refl, tt)
closes_inner brackets.Mapping next = tt

lone_inner : (b : Brackets) (next : yaml_mark_t) → AreInner (lone_value b next)
lone_inner brackets.Sequence next = tt
lone_inner brackets.Mapping next = (tt, tt)

end_inner : (b : Brackets) (ds : Directives) → behind_event (tree.end_event b) ds ≡ ds
end_inner brackets.Sequence ds = refl
end_inner brackets.Mapping ds = refl

mutual
  node_inner : {w : Wants} (n : tree.Node w) (next : yaml_mark_t) → AreInner (node_events n next)
  node_inner (tree.alias s name) next = (λ ds. refl, tt)
  node_inner (tree.only_properties d) next = (tt, tt)
  node_inner (tree.with_properties d c) next = content_inner c (Some (tree.properties_of d)) next
  node_inner (tree.bare c) next = content_inner c None next

  content_inner : {w : Wants} (c : tree.Content w) (p : Option Properties) (next : yaml_mark_t)
      → AreInner (content_events c p next)
  content_inner (tree.scalar s value style) p next = (start_inner p _ s.from s.to, tt)
  content_inner (tree.flow b s items) p next = (start_inner p _ s.from s.to, items_inner b items)
  content_inner (tree.block_sequence s entries) p next = (start_inner p _ s.from s.to, entries_inner entries)
  content_inner (tree.block_mapping s pairs) p next = (start_inner p _ s.from s.to, pairs_inner pairs)
  content_inner (tree.indentless s n others) p next =
      (start_inner p _ s.from s.to, inner_more (maybe_events n _ s.to _) (others_events _ others next) (maybe_inner n _ s.to _) (others_inner _ others next))

  maybe_inner : {w : Wants} (n : tree.Maybe w) (place : Site) (before next : yaml_mark_t)
      → AreInner (maybe_events n place before next)
  maybe_inner tree.left_out place before next = (tt, tt)
  maybe_inner (tree.there n) place before next = node_inner n next

  colon_inner : {w : Wants} (v : tree.Colon w) (place : Site) (next : yaml_mark_t)
      → AreInner (colon_events v place next)
  colon_inner tree.no_colon place next = (tt, tt)
  colon_inner (tree.colon s n) place next = maybe_inner n place s.to next

  items_inner : (b : Brackets) (i : tree.Items) → AreInner (items_events b i)
  items_inner b (tree.end_items s) = (end_inner b, tt)
  items_inner b (tree.single n more) =
      inner_more (node_events n _ ++ lone_value b _) (more_events b more) (inner_more (node_events n _) (lone_value b _) (node_inner n _) (lone_inner b _)) (more_inner b more)
  items_inner b (tree.pair s key value more) =
      inner_more (((pair_opens b s ++ maybe_events key _ s.to _) ++ colon_events value _ _) ++ pair_closes b _) (more_events b more)
      (inner_more ((pair_opens b s ++ maybe_events key _ s.to _) ++ colon_events value _ _) (pair_closes b _)
      (inner_more (pair_opens b s ++ maybe_events key _ s.to _) (colon_events value _ _)
      (inner_more (pair_opens b s) (maybe_events key _ s.to _) (opens_inner b s) (maybe_inner key _ s.to _)) (colon_inner value _ _)) (closes_inner b _)) (more_inner b more)

  more_inner : (b : Brackets) (m : tree.More) → AreInner (more_events b m)
  more_inner b (tree.end_more s) = (end_inner b, tt)
  more_inner b (tree.comma s items) = items_inner b items

  entries_inner : (e : tree.Entries) → AreInner (entries_events e)
  entries_inner (tree.end_entries s) = (λ ds. refl, tt)
  entries_inner (tree.entry s n entries) = inner_more (maybe_events n _ s.to _) (entries_events entries) (maybe_inner n _ s.to _) (entries_inner entries)

  others_inner : (side : Side) (o : tree.Others) (next : yaml_mark_t)
      → AreInner (others_events side o next)
  others_inner side tree.no_others next = (λ ds. refl, tt)
  others_inner side (tree.other s n others) next = inner_more (maybe_events n _ s.to _) (others_events side others next) (maybe_inner n _ s.to _) (others_inner side others next)

  pairs_inner : (p : tree.Pairs) → AreInner (pairs_events p)
  pairs_inner (tree.end_pairs s) = (λ ds. refl, tt)
  pairs_inner (tree.block_pair s key value pairs) =
      inner_more (maybe_events key _ s.to _ ++ colon_events value _ _) (pairs_events pairs)
      (inner_more (maybe_events key _ s.to _) (colon_events value _ _) (maybe_inner key _ s.to _) (colon_inner value _ _)) (pairs_inner pairs)

-- ---- directives

numbered : List RawEvent → List Given
numbered is = map (λ (i : RawEvent). (i, 0)) is

unnumbered : (is : List RawEvent) → raw_of (numbered is) ≡ is
unfolding numbered
unnumbered [] = refl
unnumbered (i ∷ is) = ap (λ (js : List RawEvent). i ∷ js) (unnumbered is)

directives_raw : (ds : List Directive) (gs : List Given)
    → raw_of (items_directives ds [] gs) ≡ directives_events ds ++ raw_of gs
directives_raw [] gs = refl
directives_raw (tree.version s major minor ∷ ds) gs = ap (λ (js : List RawEvent). item_at (item.version_directive major minor) s.from s.to ∷ js) (directives_raw ds gs)
directives_raw (tree.handle s name prefix ∷ ds) gs = ap (λ (js : List RawEvent). item_at (item.tag_directive name prefix) s.from s.to ∷ js) (directives_raw ds gs)

directives_pass : (ds : List Directive) (more : List RawEvent)
    → Passes [] (bare (directives_events ds ++ more) no_directives)
    (bare more (directives (version_in ds) (tags_in ds)))
directives_pass ds more =
    let gs : List Given = numbered more in
    let all : List Given = items_directives ds [] gs in
    let raw : raw_of all ≡ directives_events ds ++ more = directives_raw ds gs ∙ ap (λ (js : List RawEvent). directives_events ds ++ js) (unnumbered more) in
    let D : Directives = directives (version_in ds) (tags_in ds) in
    let a : IsBare (reading all None no_directives) (bare (directives_events ds ++ more) no_directives) = subst (λ (js : List RawEvent). IsBare (reading all None no_directives) (bare js no_directives)) raw (is_bare all no_directives) in
    let b : IsBare (reading gs None D) (bare more D) = subst (λ (js : List RawEvent). IsBare (reading gs None D) (bare js D)) (unnumbered more) (is_bare gs D) in
    record {
      right = λ e. sym b.1 ∙ ap (λ (r : Reading). r.ending) (sym (directives_read ds [] gs None None [] (a.1 ∙ e))) ∙ a.1 ∙ e;
      says = λ e. sym a.0 ∙ ap (λ (r : Reading). events_in r.events) (directives_read ds [] gs None None [] (a.1 ∙ e)) ∙ b.0;
    }

-- ---- documents

regrouped : (a b c d e : List RawEvent) → (((a ++ b) ++ c) ++ d) ++ e ≡ a ++ ((b ++ (c ++ d)) ++ e)
regrouped a b c d e = simp append_assoc

told_apart : (v : Option yaml_version_directive_t) (ds : List TagDirective) (is js : List RawEvent)
    → told_under v ds (is ++ js) ≡ told_under v ds is ++ told_under v ds js
told_apart v ds is js = flat_map-append (λ (i : RawEvent). map (λ (b : EventBody). placed b i) (said_under v ds i.body)) is js

-- a document's start, node and end
whole_passes : (D : Directives) (is : List RawEvent) (ends : List Span) (next : yaml_mark_t)
    (more : List RawEvent) → AreInner is
    → Passes (told_under D.version D.tags (is ++ ends_events ends next))
    (bare ((is ++ ends_events ends next) ++ more) D) (bare more no_directives)
whole_passes D is ends next more h =
    let both = joined (told_under D.version D.tags is) (told_under D.version D.tags (ends_events ends next)) (bare (is ++ (ends_events ends next ++ more)) D) (bare (ends_events ends next ++ more) D) (bare more no_directives)
    (inner_passes is (ends_events ends next ++ more) D h) (ends_pass ends next more D) in
    subst (λ (es : List Event). Passes es (bare ((is ++ ends_events ends next) ++ more) D) (bare more no_directives)) (sym (told_apart D.version D.tags is (ends_events ends next)))
    (subst (λ (js : List RawEvent). Passes (told_under D.version D.tags is ++ told_under D.version D.tags (ends_events ends next)) (bare js D) (bare more no_directives)) (sym (append_assoc is (ends_events ends next) more)) both)

documents_pass : (d : Documents) → (bare (documents_events d) no_directives).ending ≡ None
    → (bare (documents_events d) no_directives).events ≡ documents_told d
unfolding bare
documents_pass (tree.end_stream s) e = refl
documents_pass (tree.document ds s root ends more) e =
    let start : RawEvent = item_at (item.document false) (start_of ds s) s.to in
    let node : List RawEvent = maybe_events root Root s.to (ends_start ends (documents_start more)) in
    let close : List RawEvent = ends_events ends (documents_start more) in
    let rest : List RawEvent = documents_events more in
    let D : Directives = directives (version_in ds) (tags_in ds) in
    let same : documents_events (tree.document ds s root ends more) ≡ directives_events ds ++ (((start ∷ node) ++ close) ++ rest) = regrouped (directives_events ds) (start ∷ []) node close rest in
    let told : Passes (told_under (version_in ds) (tags_in ds) ((start ∷ node) ++ close)) (bare (directives_events ds ++ (((start ∷ node) ++ close) ++ rest)) no_directives) (bare rest no_directives) =
    joined [] (told_under (version_in ds) (tags_in ds) ((start ∷ node) ++ close)) (bare (directives_events ds ++ (((start ∷ node) ++ close) ++ rest)) no_directives) (bare (((start ∷ node) ++ close) ++ rest) D) (bare rest no_directives)
    (directives_pass ds (((start ∷ node) ++ close) ++ rest)) (whole_passes D (start ∷ node) ends (documents_start more) rest (tt, maybe_inner root Root s.to _)) in
    let k : (bare (directives_events ds ++ (((start ∷ node) ++ close) ++ rest)) no_directives).ending ≡ None = subst (λ (js : List RawEvent). (bare js no_directives).ending ≡ None) same e in
    ap (λ (js : List RawEvent). (bare js no_directives).events) same ∙ told.says k
    ∙ ap (λ (es : List Event). told_under (version_in ds) (tags_in ds) ((start ∷ node) ++ close) ++ es) (documents_pass more (told.right k))

first_passes : (x : First) (next : yaml_mark_t) (more : List RawEvent)
    → Passes (told_under None [] (first_events x next))
    (bare (first_events x next ++ more) no_directives) (bare more no_directives)
first_passes tree.no_first next more = record { right = λ e. e; says = λ e. refl }
first_passes (tree.first n ends) next more =
    whole_passes no_directives (item_at (item.document true) (node_start n) (node_start n) ∷ node_events n (ends_start ends next)) ends next more (tt, node_inner n _)

stream_passes : (t : Stream) → (bare (tree_events t) no_directives).ending ≡ None
    → (bare (tree_events t) no_directives).events ≡ stream_told t
unfolding bare
stream_passes t e =
    let first : List RawEvent = first_events t.first (documents_start t.documents) in
    let p = first_passes t.first (documents_start t.documents) (documents_events t.documents) in
    ap (λ (es : List Event). placed (event.stream_start t.encoding) (event_at (event.stream_start t.encoding) t.start.from t.start.to) ∷ es)
    (p.says e ∙ ap (λ (es : List Event). told_under None [] first ++ es) (documents_pass t.documents (p.right e)))

-- ---- of an input

first_zip : (is : List RawEvent) (ns : List ℕ) → length ns ≡ length is → raw_of (zip is ns) ≡ is
first_zip [] ns h = refl
first_zip (i ∷ is) [] h = absurd (omega (arith, h))
first_zip (i ∷ is) (n ∷ ns) h = ap (λ (js : List RawEvent). i ∷ js) (first_zip is ns (omega (arith, h)))

pub told : (from : yaml_encoding_t) (input : List ℕ) (es : List Told)
    (h : BeginsWithSentence (tokens_of from input).tokens)
    → es ≡ (reading (given_of h.tree (length h.rest)) None no_directives).events
    → events_in es ≡ stream_told h.tree
told from input es h e =
    let t : Stream = h.tree in
    let n : ℕ = length h.rest in
    let ts : List Token = (tokens_of from input).tokens in
    let own : Option Fault = (tokens_of from input).fault in
    let raw : raw_of (given_of t n) ≡ tree_events t = first_zip (tree_events t) (unasked (tree_turns t) n) (turns_fit t h.rest).events in
    let b : IsBare (reading (given_of t n) None no_directives) (bare (tree_events t) no_directives) = subst (λ (js : List RawEvent). IsBare (reading (given_of t n) None no_directives) (bare js no_directives)) raw (is_bare (given_of t n) no_directives) in
    ap (λ (xs : List Told). events_in xs) e ∙ b.0 ∙ stream_passes t (sym b.1 ∙ ap (λ (gs : List Given). (reading gs None no_directives).ending) (sym (items_given t h.rest)) ∙ ap (λ (r : Reading). r.ending) (sym (tree_read ts own h)) ∙ fault_ends ts own None h)

-- ---- the events of an input

-- by the tree of its tokens
pub tree_events_of : (from : yaml_encoding_t) (input : List ℕ) (es : List Told)
    (b : BeginsWithSentence (tokens_of from input).tokens)
    → es ≡ (reading (given_of b.tree (length b.rest)) None no_directives).events
    → HasEvents from input es
tree_events_of from input es b e = record {
  sentence = b;
  told = told from input es b e;
  of_text = λ text s. tokens_are from input text s;
  are = e;
}

pub are_told : EventsAreTold
are_told from input es h = h.told
