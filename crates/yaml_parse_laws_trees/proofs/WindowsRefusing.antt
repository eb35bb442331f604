-- A front that is refused is refused so whatever document follows.
use Rattle.std.proofs.Common.{◌≡◌, ◌≢◌, false, List, [], ◌∷◌, ◌++◌, Option, Some, None, refl, sym, ap, subst, ◌∙◌, inl, inr, ◌⊎◌, arith}
use Rattle.std.proofs.lemmas.List.{append_assoc}
use Rattle.std.proofs.lemmas.Option.{none-some, same_Some}
use Rattle.yaml_parse_laws_trees.proofs.WindowsWords.{yaml_mark_t, Token, Event, Fault, RawEvent, item_at, event_at, Directives, no_directives, Settled, refused, gave, noted, settle, placed, State, left_at, Fed, stop, go, with_item, feed, run, initial, parse_of, events_in, GoOn}
use Rattle.yaml_parse_grammar.specs.scan_types.Tokens as token
use Rattle.yaml_parse_grammar.specs.parse_model.Events as event
use Rattle.yaml_parse_grammar.specs.declared.Brackets.TheVariants as brackets
use Rattle.yaml_parse_grammar.specs.declared.ParseProblem.TheVariants as problem
use Rattle.yaml_parse_grammar.specs.Problems.{parser_fault}
use Rattle.yaml_parse_grammar.specs.Items as item
use Rattle.yaml_parse_grammar.specs.States as state
use Rattle.yaml_parse_laws_trees.specs.WindowsLaws.{RefusedFrontsStay}
use Rattle.yaml_parse_laws_trees.proofs.Grounding.{Within, Stands}
use Rattle.yaml_parse_laws_trees.proofs.Noting.{with_event, then_through, through, Fine, stands_feed}
use Rattle.yaml_parse_laws_trees.proofs.Parting.{end_at, start_at, begun, Ended, parts}
use Rattle.yaml_parse_laws_trees.proofs.Following.{items_of, Plain, told_by, plain, plain_through, read_of, went, halted, parse_plain, body_at}
use Rattle.yaml_parse_laws_trees.proofs.Beginning.{nothing_more}

-- ---- a stack at the stream's end and at a document's start

-- where the first is refused, so is the second
abbrev Halts : Fed → Fed → Type 0
Halts (stop is g) y = y ≡ stop is g
Halts (go is s) y = Unit {0}

halts_item : (i : RawEvent) (x y : Fed) → Halts x y → Halts (with_item i x) (with_item i y)
halts_item i x y h = grind arith

abbrev HaltsAt : List State → yaml_mark_t → yaml_mark_t → yaml_mark_t → Type 0
HaltsAt s m e f = Halts (feed s (end_at m e)) (feed s (start_at m f))

optional_halts : (place : _) (before m e f : yaml_mark_t) (s : List State) → HaltsAt s m e f
    → HaltsAt (state.optional place before ∷ s) m e f
unfolding feed
optional_halts place before m e f s h = grind (arith, halts_item)

beside_halts : (w : _) (p : _) (m e f : yaml_mark_t) (s : List State) → HaltsAt s m e f
    → HaltsAt (state.with_properties w p ∷ s) m e f
unfolding feed
beside_halts w p m e f s h = grind (arith, halts_item)

over_halts : (m e f : yaml_mark_t) → HaltsAt (state.document_end ∷ state.documents ∷ []) m e f
unfolding feed
over_halts m e f = tt

within_halts : (s : List State) → Within s → (m e f : yaml_mark_t) → HaltsAt s m e f
unfolding feed
within_halts [] w m e f = absurd w
within_halts (state.stream ∷ s) w m e f = absurd w
within_halts (state.first ∷ s) w m e f = absurd w
within_halts (state.documents ∷ s) w m e f = absurd w
within_halts (state.directives from ∷ s) w m e f = absurd w
within_halts (state.document_end ∷ s) w m e f = subst (λ z. HaltsAt (state.document_end ∷ z) m e f) (sym w) (over_halts m e f)
within_halts (state.optional place before ∷ s) w m e f = optional_halts place before m e f s (within_halts s w m e f)
within_halts (state.entries opener ∷ s) w m e f = refl
within_halts (state.others side ∷ s) w m e f = halts_item (left_at (state.others side) m) (feed s (end_at m e)) (feed s (start_at m f)) (within_halts s w m e f)
within_halts (state.pairs opener ∷ s) w m e f = refl
within_halts (state.colon place ∷ s) w m e f = halts_item (left_at (state.colon place) m) (feed s (end_at m e)) (feed s (start_at m f)) (within_halts s w m e f)
within_halts (state.with_properties v q ∷ s) w m e f = beside_halts v q m e f s (within_halts s w m e f)
within_halts (state.items brackets.Sequence opener ∷ s) w m e f = refl
within_halts (state.items brackets.Mapping opener ∷ s) w m e f = refl
within_halts (state.more brackets.Sequence opener ∷ s) w m e f = refl
within_halts (state.more brackets.Mapping opener ∷ s) w m e f = refl
within_halts (state.pair_end ∷ s) w m e f = halts_item (left_at state.pair_end m) (feed s (end_at m e)) (feed s (start_at m f)) (within_halts s w m e f)
within_halts (state.lone ∷ s) w m e f = halts_item (left_at state.lone m) (feed s (end_at m e)) (feed s (start_at m f)) (within_halts s w m e f)

-- so at each stack, but after directives
abbrev AfterDirectives : List State → yaml_mark_t → yaml_mark_t → Type 0
AfterDirectives s m e = feed s (end_at m e) ≡ stop [] (parser_fault problem.NoDocumentStart m m)

stands_halts : (s : List State) (ds : Directives) → Stands s ds → (m e f : yaml_mark_t)
    → HaltsAt s m e f ⊎ AfterDirectives s m e
unfolding feed
stands_halts s ds g m e f = grind (arith, within_halts)

-- ---- items that come first

-- only where all of them settle the others count
pub same_front : (is : List RawEvent) (ds : Directives) (js ks : List RawEvent) (f g : Option Fault)
    → ((es : List Event) (behind : Directives) → through is ds ≡ Some (es, behind) → plain js f behind ≡ plain ks g behind)
    → plain (is ++ js) f ds ≡ plain (is ++ ks) g ds
same_front [] ds js ks f g h = h [] ds refl
same_front (i ∷ is) ds js ks f g h = by (settle i ds) refl (λ z k. same_front is z js ks f g k)
  where
    by : (y : Settled) → settle i ds ≡ y
        → ((z : Directives) → ((es : List Event) (behind : Directives) → through is z ≡ Some (es, behind) → plain js f behind ≡ plain ks g behind)
        → plain (is ++ js) f z ≡ plain (is ++ ks) g z)
        → told_by y i (λ z. plain (is ++ js) f z) ≡ told_by y i (λ z. plain (is ++ ks) g z)
    by (refused x) e rec = refl
    by (gave body z) e rec =
        ap (λ (p : Plain). record { events = placed body i ∷ p.events; ending = p.ending })
        (rec z (λ es behind t. h (placed body i ∷ es) behind (ap (λ v. then_through v i (λ x. through is x)) e ∙ ap (with_event (placed body i)) t)))
    by (noted z) e rec = rec z (λ es behind t. h es behind (ap (λ v. then_through v i (λ x. through is x)) e ∙ t))

-- ---- tokens

over_none : (run [] [] None).ending ≡ None
unfolding run feed
over_none = refl

at_end : (s : List State) (ds : Directives) → Stands s ds → (m e n : yaml_mark_t)
    → (behind : List Token) (own : Option Fault) (f : Fault)
    → (read_of (run (end_at m e ∷ []) s None) ds).ending ≡ Some f
    → f ≢ parser_fault problem.NoDocumentStart m m
    → read_of (run (start_at m n ∷ behind) s own) ds ≡ read_of (run (end_at m e ∷ []) s None) ds
at_end s ds g m e n behind own f ends other =
    elim (stands_halts s ds g m e n) [
      | inr stops ↦ absurd (other (same_Some _ _ (sym ends ∙ ap (λ (p : Plain). p.ending) (halted (end_at m e) [] s None [] (parser_fault problem.NoDocumentStart m m) ds stops))))
      | inl halts ↦ elim (parts s ds g m e n) [
        | inr (is, p, stops) ↦
            let too : feed s (start_at m n) ≡ stop is p = subst (λ y. Halts y (feed s (start_at m n))) stops halts in
            halted (start_at m n) behind s own is p ds too ∙ sym (halted (end_at m e) [] s None is p ds stops)
        | inl r ↦ closes r
      ]
    ]
  where
    closes : Ended s m e n → read_of (run (start_at m n ∷ behind) s own) ds ≡ read_of (run (end_at m e ∷ []) s None) ds
    closes r =
        let End = event_at event.stream_end m e in
        let Doc = item_at (item.document false) m n in
        let B = run behind (begun n) own in
        let here = went (end_at m e) [] s [] None (r.left ++ End ∷ []) ds r.ends
        ∙ ap (λ y. plain ((r.left ++ End ∷ []) ++ y) (run [] [] None).ending ds) nothing_more
        ∙ ap (λ y. plain ((r.left ++ End ∷ []) ++ []) y ds) over_none
        ∙ ap (λ y. plain y None ds) (append_assoc r.left (End ∷ []) []) in
        let there = went (start_at m n) behind s (begun n) own (r.left ++ Doc ∷ []) ds r.starts
        ∙ ap (λ y. plain y B.ending ds) (append_assoc r.left (Doc ∷ []) (items_of B.items)) in
        there ∙ same_front r.left ds (Doc ∷ items_of B.items) (End ∷ []) B.ending None
        (λ es z told. absurd (none-some _ (sym (ap (λ (p : Plain). p.ending) (here ∙ plain_through r.left (End ∷ []) None ds z es told)) ∙ ends)))
        ∙ sym here

front_refused : (front : List Token) (s : List State) (ds : Directives) → Stands s ds → GoOn front
    → (m e n : yaml_mark_t) (behind : List Token) (own : Option Fault) (f : Fault)
    → (read_of (run (front ++ end_at m e ∷ []) s None) ds).ending ≡ Some f
    → f ≢ parser_fault problem.NoDocumentStart m m
    → read_of (run (front ++ start_at m n ∷ behind) s own) ds
    ≡ read_of (run (front ++ end_at m e ∷ []) s None) ds
front_refused [] s ds g goes m e n behind own f ends other = at_end s ds g m e n behind own f ends other
front_refused (t ∷ front) s ds g goes m e n behind own f ends other =
    by (feed s t) refl (stands_feed s ds g t goes.0) (λ z w h k. front_refused front z w h goes.1 m e n behind own f k other)
  where
    by : (x : Fed) → feed s t ≡ x → Fine x ds
        → ((z : List State) (w : Directives) → Stands z w → (read_of (run (front ++ end_at m e ∷ []) z None) w).ending ≡ Some f
        → read_of (run (front ++ start_at m n ∷ behind) z own) w ≡ read_of (run (front ++ end_at m e ∷ []) z None) w)
        → read_of (run (t ∷ (front ++ start_at m n ∷ behind)) s own) ds ≡ read_of (run (t ∷ (front ++ end_at m e ∷ [])) s None) ds
    by (stop is p) k fine rec = halted t (front ++ start_at m n ∷ behind) s own is p ds k ∙ sym (halted t (front ++ end_at m e ∷ []) s None is p ds k)
    by (go is z) k fine rec =
        let R = run (front ++ end_at m e ∷ []) z None in
        let W = run (front ++ start_at m n ∷ behind) z own in
        let here = went t (front ++ end_at m e ∷ []) s z None is ds k in
        went t (front ++ start_at m n ∷ behind) s z own is ds k
        ∙ same_front is ds (items_of W.items) (items_of R.items) W.ending R.ending
        (λ es w told. rec z w (fine es w told) (sym (ap (λ (p : Plain). p.ending) (here ∙ plain_through is (items_of R.items) R.ending ds w es told)) ∙ ends))
        ∙ sym here

pub refused_fronts_stay : RefusedFrontsStay
refused_fronts_stay front last goes ends f none other mark begins there behind own =
    let m = last.start_mark in
    let E = body_at last token.stream_end m ends refl in
    let D = body_at mark token.document_start m begins there in
    let is = ap (λ t. parse_of (front ++ t ∷ []) None) E in
    let mine = parse_plain (front ++ end_at m last.end_mark ∷ []) None in
    let none_there = sym (ap (λ (p : Plain). p.ending) mine) ∙ sym (ap (λ r. r.ending) is) ∙ none in
    let same = parse_plain (front ++ start_at m mark.end_mark ∷ behind) own
    ∙ front_refused front initial no_directives (refl, refl) goes m last.end_mark mark.end_mark behind own f none_there other ∙ sym mine in (
      ap (λ t. events_in (parse_of (front ++ t ∷ behind) own)) D ∙ ap (λ (p : Plain). p.events) same ∙ ap events_in (sym is),
      ap (λ t. (parse_of (front ++ t ∷ behind) own).ending) D ∙ ap (λ (p : Plain). p.ending) same ∙ ap (λ r. r.ending) (sym is) ∙ none,
    )
