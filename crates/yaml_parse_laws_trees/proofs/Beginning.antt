-- After a document's explicit end a directive begins a document as after the stream's start.
use Rattle.std.proofs.Common.{◌≡◌, ◌≢◌, List, [], ◌∷◌, ◌++◌, length, Option, Some, None, refl, sym, ap, subst, ◌∙◌, arith}
use Rattle.std.proofs.lemmas.List.{append_assoc, same_from_push}
use Rattle.yaml_parse_laws_trees.proofs.WindowsWords.{yaml_mark_t, yaml_encoding_t, Token, TokenBody, Event, Fault, RawEvent, event_at, Directives, no_directives, placed, State, left_at, Fed, stop, go, with_item, feed, carry, run, initial, parse_of, events_in, GoOn}
use Rattle.yaml_parse_grammar.specs.scan_types.Tokens as token
use Rattle.yaml_parse_grammar.specs.parse_model.Events as event
use Rattle.yaml_parse_grammar.specs.declared.Brackets.TheVariants as brackets
use Rattle.yaml_parse_grammar.specs.States as state
use Rattle.yaml_parse_laws_trees.specs.WindowsLaws.{BeginsDocument, DocumentGoesOn, DirectivesAreParsed}
use Rattle.yaml_parse_laws_trees.proofs.Grounding.{Stands}
use Rattle.yaml_parse_laws_trees.proofs.Noting.{through, none_some, Fine, within_stands, stands_feed}
use Rattle.yaml_parse_laws_trees.proofs.Parting.{end_at}
use Rattle.yaml_parse_laws_trees.proofs.Following.{items_of, Plain, plain, seen, with_one, with_front, plain_through, plain_accepts, through_parts, run_step, step_items, step_ending, read_of, went, After, after, uncons, inner_pair, parse_plain, body_at}

abbrev pub over_at : yaml_mark_t → yaml_mark_t → Token
over_at m e = record { body = token.document_end; start_mark = m; end_mark = e }

-- ---- the stack after DOCUMENT-END

-- it awaits documents
abbrev pub IsOver : Fed → Type 0
IsOver (stop is f) = Unit {0}
IsOver (go is s) = s ≡ state.documents ∷ []

over_item : (i : RawEvent) (x : Fed) → IsOver x → IsOver (with_item i x)
over_item i x h = grind arith

optional_over : (place : _) (before m e : yaml_mark_t) (s : List State)
    → IsOver (feed s (over_at m e)) → IsOver (feed (state.optional place before ∷ s) (over_at m e))
unfolding feed
optional_over place before m e s h = grind (arith, over_item)

beside_over : (w : _) (p : _) (m e : yaml_mark_t) (s : List State)
    → IsOver (feed s (over_at m e)) → IsOver (feed (state.with_properties w p ∷ s) (over_at m e))
unfolding feed
beside_over w p m e s h = grind (arith, over_item)

pub feed_over : (s : List State) (ds : Directives) → Stands s ds → (m e : yaml_mark_t)
    → IsOver (feed s (over_at m e))
unfolding feed
feed_over [] ds g m e = absurd g
feed_over (state.stream ∷ s) ds g m e = tt
feed_over (state.first ∷ s) ds g m e = tt
feed_over (state.documents ∷ s) ds g m e = ap (λ z. state.documents ∷ z) g.0
feed_over (state.directives from ∷ s) ds g m e = tt
feed_over (state.optional place before ∷ s) ds g m e = optional_over place before m e s (feed_over s ds (within_stands s ds g) m e)
feed_over (state.document_end ∷ s) ds g m e = g
feed_over (state.entries opener ∷ s) ds g m e = tt
feed_over (state.others side ∷ s) ds g m e = over_item (left_at (state.others side) m) (feed s (over_at m e)) (feed_over s ds (within_stands s ds g) m e)
feed_over (state.pairs opener ∷ s) ds g m e = tt
feed_over (state.colon place ∷ s) ds g m e = over_item (left_at (state.colon place) m) (feed s (over_at m e)) (feed_over s ds (within_stands s ds g) m e)
feed_over (state.with_properties w p ∷ s) ds g m e = beside_over w p m e s (feed_over s ds (within_stands s ds g) m e)
feed_over (state.items brackets.Sequence opener ∷ s) ds g m e = tt
feed_over (state.items brackets.Mapping opener ∷ s) ds g m e = tt
feed_over (state.more brackets.Sequence opener ∷ s) ds g m e = tt
feed_over (state.more brackets.Mapping opener ∷ s) ds g m e = tt
feed_over (state.pair_end ∷ s) ds g m e = over_item (left_at state.pair_end m) (feed s (over_at m e)) (feed_over s ds (within_stands s ds g) m e)
feed_over (state.lone ∷ s) ds g m e = over_item (left_at state.lone m) (feed s (over_at m e)) (feed_over s ds (within_stands s ds g) m e)

-- ---- what begins a document does the same there and after the stream's start

record Begun (t : Token) : Type 0 where
  pub item : RawEvent
  pub stack : List State
  pub behind : feed (state.documents ∷ []) t ≡ go (item ∷ []) stack
  pub at_first : feed (state.first ∷ []) t ≡ go (item ∷ []) stack

begun_by : (b : TokenBody) (m e : yaml_mark_t) → BeginsDocument b
    → Begun (record { body = b; start_mark = m; end_mark = e })
unfolding feed
begun_by (token.version_directive major minor) m e h = record { item = _; stack = _; behind = refl; at_first = refl }
begun_by (token.tag_directive handle prefix) m e h = record { item = _; stack = _; behind = refl; at_first = refl }
begun_by token.document_start m e h = record { item = _; stack = _; behind = refl; at_first = refl }
begun_by _ m e h = absurd h

-- ---- tokens up to DOCUMENT-END

record Over (front : List Token) (m e : yaml_mark_t) : Type 0 where
  pub taken : After front initial no_directives
  pub left : List RawEvent
  pub ends : feed taken.stack (over_at m e) ≡ go left (state.documents ∷ [])
  pub events : List Event
  pub told : through left taken.noted ≡ Some (events, no_directives)

overed : (front : List Token) (m e : yaml_mark_t) (s : After front initial no_directives)
    (ts : List Token)
    → (es : List Event) (z : Directives)
    → through (s.items ++ items_of (run (over_at m e ∷ ts) s.stack None).items) no_directives ≡ Some (es, z)
    → (run (over_at m e ∷ ts) s.stack None).ending ≡ None
    → Over front m e
overed front m e s ts es z told quiet =
    by (feed s.stack (over_at m e)) refl (feed_over s.stack s.noted s.stands m e) (stands_feed s.stack s.noted s.stands (over_at m e) other)
  where
    other : token.document_end ≢ token.stream_end
    other e = cc

    by : (x : Fed) → feed s.stack (over_at m e) ≡ x → IsOver x → Fine x s.noted → Over front m e
    by (stop is g) k h fine = absurd (none_some (sym quiet ∙ ap (λ y. y.ending) (run_step (over_at m e) ts s.stack None) ∙ ap (λ y. (carry (length ts) y (λ w. run ts w None)).ending) k))
    by (go is w) k h fine =
        let rest = items_of (run ts w None).items in
        let items = step_items (over_at m e) ts s.stack w None is k in
        let (fs, v, gs, one, two) = through_parts s.items (is ++ rest) no_directives z es (ap (λ y. through (s.items ++ y) no_directives) (sym items) ∙ told) in
        let same : v ≡ s.noted = ap (λ (y : List Event × Directives). y.1) (inner_pair (sym one ∙ s.told)) in
        let (hs, u, ks, three, four) = through_parts is rest v z gs two in
        let there : through is s.noted ≡ Some (hs, u) = ap (λ y. through is y) (sym same) ∙ three in
        let stands : Stands (state.documents ∷ []) u = subst (λ y. Stands y u) h (fine hs u there) in
        record {
          taken = s;
          left = is;
          ends = k ∙ ap (λ y. go is y) h;
          events = hs;
          told = there ∙ ap (λ y. Some (hs, y)) stands.1;
        }

over_of : (front : List Token) → GoOn front → (m e : yaml_mark_t) (ts : List Token)
    → (parse_of (front ++ over_at m e ∷ ts) None).ending ≡ None → Over front m e
over_of front goes m e ts none =
    let us = over_at m e ∷ ts in
    let A = run (front ++ us) initial None in
    let ending : (plain (items_of A.items) A.ending no_directives).ending ≡ None = ap (λ (p : Plain). p.ending) (sym (parse_plain (front ++ us) None)) ∙ none in
    let (es, z, told, quiet) = plain_accepts (items_of A.items) A.ending no_directives ending in
    let s = after front initial no_directives (refl, refl) goes us es z told quiet in
    overed front m e s ts es z (ap (λ y. through y no_directives) (sym (s.gives us None)) ∙ told) (sym (s.ends us None) ∙ quiet)

-- what is read after DOCUMENT-END
over_plain : (front : List Token) (m e : yaml_mark_t) (x : Over front m e)
    (rest : List Token) (own : Option Fault)
    → seen (parse_of (front ++ over_at m e ∷ rest) own)
    ≡ with_front (x.taken.events ++ x.events) (read_of (run rest (state.documents ∷ []) own) no_directives)
over_plain front m e x rest own =
    let us = over_at m e ∷ rest in
    let W = run (front ++ us) initial own in
    let R = run rest (state.documents ∷ []) own in
    let js = items_of R.items in
    let items = x.taken.gives us own
    ∙ ap (λ y. x.taken.items ++ y) (step_items (over_at m e) rest x.taken.stack (state.documents ∷ []) own x.left x.ends) in
    let ends = x.taken.ends us own ∙ step_ending (over_at m e) rest x.taken.stack (state.documents ∷ []) own x.left x.ends in
    parse_plain (front ++ us) own
    ∙ ap (λ y. plain y W.ending no_directives) items
    ∙ ap (λ y. plain (x.taken.items ++ (x.left ++ js)) y no_directives) ends
    ∙ plain_through x.taken.items (x.left ++ js) R.ending no_directives x.taken.noted x.taken.events x.taken.told
    ∙ ap (with_front x.taken.events) (plain_through x.left js R.ending x.taken.noted no_directives x.events x.told)
    ∙ ap (λ (y : List Event). record { events = y; ending = (plain js R.ending no_directives).ending }) (sym (append_assoc x.taken.events x.events (plain js R.ending no_directives).events))

-- ---- the law

pub end_taken : (m e : yaml_mark_t)
    → feed (state.documents ∷ []) (end_at m e) ≡ go (event_at event.stream_end m e ∷ []) []
unfolding feed
end_taken m e = refl

start_taken : (x : yaml_encoding_t) (m e : yaml_mark_t)
    → feed initial (record { body = token.stream_start x; start_mark = m; end_mark = e })
    ≡ go (event_at (event.stream_start x) m e ∷ []) (state.first ∷ [])
unfolding feed
start_taken x m e = refl

pub nothing_more : items_of (run [] [] None).items ≡ []
unfolding run feed
nothing_more = refl

-- the stream's end after DOCUMENT-END
end_plain : (m e : yaml_mark_t)
    → (read_of (run (end_at m e ∷ []) (state.documents ∷ []) None) no_directives).events
    ≡ placed event.stream_end (event_at event.stream_end m e) ∷ []
end_plain m e =
    let End = event_at event.stream_end m e in
    ap (λ (p : Plain). p.events) (went (end_at m e) [] (state.documents ∷ []) [] None (End ∷ []) no_directives (end_taken m e)
    ∙ ap (λ z. plain (End ∷ z) (run [] [] None).ending no_directives) nothing_more)

-- what is read after the stream's start
first_plain : (x : yaml_encoding_t) (a c : yaml_mark_t) (rest : List Token) (own : Option Fault)
    → let first : Token = record { body = token.stream_start x; start_mark = a; end_mark = c } in
    seen (parse_of (first ∷ rest) own)
    ≡ with_one (placed (event.stream_start x) (event_at (event.stream_start x) a c)) (read_of (run rest (state.first ∷ []) own) no_directives)
first_plain x a c rest own =
    let first : Token = record { body = token.stream_start x; start_mark = a; end_mark = c } in
    parse_plain (first ∷ rest) own ∙ went first rest initial (state.first ∷ []) own (event_at (event.stream_start x) a c ∷ []) no_directives (start_taken x a c)

-- it is the same after both
same_rest : (rest : List Token) (own : Option Fault) → DocumentGoesOn rest own
    → read_of (run rest (state.documents ∷ []) own) no_directives ≡ read_of (run rest (state.first ∷ []) own) no_directives
unfolding run
same_rest [] None h = absurd (h refl)
same_rest [] (Some f) h = refl
same_rest (t ∷ ts) own h =
    let b = begun_by t.body t.start_mark t.end_mark h in
    went t ts (state.documents ∷ []) b.stack own (b.item ∷ []) no_directives b.behind
    ∙ sym (went t ts (state.first ∷ []) b.stack own (b.item ∷ []) no_directives b.at_first)

at_once : (front : List Token) → GoOn front → (m e n f : yaml_mark_t)
    → (parse_of (front ++ over_at m e ∷ end_at n f ∷ []) None).ending ≡ None
    → (rest : List Token) (own : Option Fault) → DocumentGoesOn rest own
    → (x : yaml_encoding_t) (a c : yaml_mark_t) (before : List Event) (end : Event)
    → events_in (parse_of (front ++ over_at m e ∷ end_at n f ∷ []) None) ≡ before ++ end ∷ []
    → (start : Event) (later : List Event)
    → let first : Token = record { body = token.stream_start x; start_mark = a; end_mark = c } in
    events_in (parse_of (first ∷ rest) own) ≡ start ∷ later
    → (events_in (parse_of (front ++ over_at m e ∷ rest) own) ≡ before ++ later)
    × ((parse_of (front ++ over_at m e ∷ rest) own).ending ≡ (parse_of (first ∷ rest) own).ending)
at_once front goes m e n f none rest own begins x a c before end came start later come =
    let y = over_of front goes m e (end_at n f ∷ []) none in
    let End = placed event.stream_end (event_at event.stream_end n f) in
    let Start = placed (event.stream_start x) (event_at (event.stream_start x) a c) in
    let P = read_of (run rest (state.first ∷ []) own) no_directives in
    let front_is = ap (λ (p : Plain). p.events) (over_plain front m e y (end_at n f ∷ []) None) ∙ ap (λ es. (y.taken.events ++ y.events) ++ es) (end_plain n f) in
    let (same, last) = same_from_push before (y.taken.events ++ y.events) end End (sym came ∙ front_is) in
    let there = first_plain x a c rest own in
    let whole = over_plain front m e y rest own ∙ ap (with_front (y.taken.events ++ y.events)) (same_rest rest own begins) in
    let others : later ≡ P.events = uncons start Start later P.events (sym come ∙ ap (λ (p : Plain). p.events) there) in (
      ap (λ (p : Plain). p.events) whole ∙ ap (λ (z : List Event). z ++ P.events) (sym same) ∙ ap (λ (z : List Event). before ++ z) (sym others),
      ap (λ (p : Plain). p.ending) whole ∙ sym (ap (λ (p : Plain). p.ending) there),
    )

pub directives_are_parsed : DirectivesAreParsed
directives_are_parsed front over last goes ended ends none rest own begins first x starts before end came start later come =
    let O = body_at over token.document_end over.start_mark ended refl in
    let E = body_at last token.stream_end last.start_mark ends refl in
    let S = body_at first (token.stream_start x) first.start_mark starts refl in
    let list = ap (λ t. front ++ t ∷ last ∷ []) O ∙ ap (λ t. front ++ over_at over.start_mark over.end_mark ∷ t ∷ []) E in
    let (events, ending) = at_once front goes over.start_mark over.end_mark last.start_mark last.end_mark
    (ap (λ ts. (parse_of ts None).ending) (sym list) ∙ none) rest own begins x first.start_mark first.end_mark before end
    (ap (λ ts. events_in (parse_of ts None)) (sym list) ∙ came) start later
    (ap (λ t. events_in (parse_of (t ∷ rest) own)) (sym S) ∙ come) in (
      ap (λ t. events_in (parse_of (front ++ t ∷ rest) own)) O ∙ events,
      ap (λ t. (parse_of (front ++ t ∷ rest) own).ending) O ∙ ending ∙ sym (ap (λ t. (parse_of (t ∷ rest) own).ending) S),
    )
