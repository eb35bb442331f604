-- Tokens that are refused before they end are refused so whatever is after them.
use Rattle.std.proofs.Common.{◌≡◌, ◌≢◌, List, [], ◌∷◌, ◌++◌, Option, Some, None, refl, sym, ap, subst, ◌∙◌, inl, inr, ◌⊎◌, arith}
use Rattle.std.proofs.lemmas.Option.{none-some, same_Some}
use Rattle.yaml_parse_laws_trees.proofs.WindowsWords.{yaml_mark_t, Token, Event, Fault, RawEvent, Directives, no_directives, event_at, State, Fed, stop, go, feed, run, initial, parse_of, events_in, GoOn}
use Rattle.yaml_parse_grammar.specs.scan_types.Tokens as token
use Rattle.yaml_parse_grammar.specs.parse_model.Events as event
use Rattle.yaml_parse_grammar.specs.States as state
use Rattle.yaml_parse_laws_trees.specs.WindowsLaws.{RefusedTokensStay, EndedFrontsStay}
use Rattle.yaml_parse_laws_trees.proofs.Noting.{through, Fine, stands_feed}
use Rattle.yaml_parse_laws_trees.proofs.Grounding.{Stands}
use Rattle.yaml_parse_laws_trees.proofs.Parting.{end_at}
use Rattle.yaml_parse_laws_trees.proofs.Beginning.{over_at, IsOver, feed_over, end_taken, nothing_more}
use Rattle.yaml_parse_laws_trees.proofs.Following.{items_of, Plain, plain, plain_through, read_of, went, halted, parse_plain, body_at}
use Rattle.yaml_parse_laws_trees.proofs.WindowsRefusing.{same_front}

-- whatever follows
abbrev Stay : List Token → List State → Directives → Fault → Type 0
Stay front s ds g = (behind : List Token) (own : Option Fault)
    → read_of (run (front ++ behind) s own) ds ≡ read_of (run front s (Some g)) ds

nothing_left : (s : List State) (ds : Directives) (g f : Fault)
    → (read_of (run [] s (Some g)) ds).ending ≡ Some f → f ≡ g
unfolding run
nothing_left s ds g f e = grind (arith, none-some, same_Some)

stay : (front : List Token) (s : List State) (ds : Directives) (g f : Fault)
    → (read_of (run front s (Some g)) ds).ending ≡ Some f → (f ≡ g) ⊎ Stay front s ds g
stay [] s ds g f e = inl (nothing_left s ds g f e)
stay (t ∷ front) s ds g f e = by (feed s t) refl (λ z w k. stay front z w g f k)
  where
    passing : (is : List RawEvent) (z : List State) → feed s t ≡ go is z
        → (o : Option (List Event × Directives)) → through is ds ≡ o
        → ((w : Directives) → (read_of (run front z (Some g)) w).ending ≡ Some f → (f ≡ g) ⊎ Stay front z w g)
        → (f ≡ g) ⊎ Stay (t ∷ front) s ds g
    passing is z k None told rec =
        inr (λ behind own.
        let W = run (front ++ behind) z own in
        let R = run front z (Some g) in
        went t (front ++ behind) s z own is ds k
        ∙ same_front is ds (items_of W.items) (items_of R.items) W.ending R.ending (λ es w there. absurd (none-some _ (sym told ∙ there)))
        ∙ sym (went t front s z (Some g) is ds k))
    passing is z k (Some x) told rec =
        let R = run front z (Some g) in
        let here = went t front s z (Some g) is ds k in
        let left = sym (ap (λ (p : Plain). p.ending) (here ∙ plain_through is (items_of R.items) R.ending ds x.1 x.0 told)) ∙ e in
        elim (rec x.1 left) [
          | inl same ↦ inl same
          | inr stays ↦ inr (λ behind own.
              let W = run (front ++ behind) z own in
              went t (front ++ behind) s z own is ds k
              ∙ plain_through is (items_of W.items) W.ending ds x.1 x.0 told
              ∙ ap (λ (p : Plain). record { events = x.0 ++ p.events; ending = p.ending }) (stays behind own)
              ∙ sym (here ∙ plain_through is (items_of R.items) R.ending ds x.1 x.0 told))
        ]

    by : (x : Fed) → feed s t ≡ x
        → ((z : List State) (w : Directives) → (read_of (run front z (Some g)) w).ending ≡ Some f → (f ≡ g) ⊎ Stay front z w g)
        → (f ≡ g) ⊎ Stay (t ∷ front) s ds g
    by (stop is p) k rec = inr (λ behind own. halted t (front ++ behind) s own is p ds k ∙ sym (halted t front s (Some g) is p ds k))
    by (go is z) k rec = passing is z k (through is ds) refl (λ w h. rec z w h)

pub refused_tokens_stay : RefusedTokensStay
refused_tokens_stay front g f e =
    let mine = parse_plain front (Some g) in
    let ends = sym (ap (λ (p : Plain). p.ending) mine) ∙ e in
    elim (stay front initial no_directives g f ends) [
      | inl same ↦ inl same
      | inr stays ↦ inr (λ behind own.
          let same = parse_plain (front ++ behind) own ∙ stays behind own ∙ sym mine in
          (ap (λ (p : Plain). p.events) same, ap (λ (p : Plain). p.ending) same ∙ e))
    ]

-- ---- after DOCUMENT-END

end_none : (run [] [] None).ending ≡ None
unfolding run feed
end_none = refl

-- the stream's end is accepted where documents are awaited
over_accepts : (n f : yaml_mark_t) (w : Directives) → w ≡ no_directives
    → (read_of (run (end_at n f ∷ []) (state.documents ∷ []) None) w).ending ≡ None
over_accepts n f w e =
    let End = event_at event.stream_end n f in
    ap (λ (p : Plain). p.ending) (went (end_at n f) [] (state.documents ∷ []) [] None (End ∷ []) w (end_taken n f))
    ∙ ap (λ z. (plain (End ∷ z) (run [] [] None).ending w).ending) nothing_more ∙ ap (λ z. (plain (End ∷ []) z w).ending) end_none

-- a stack at DOCUMENT-END
over_stays : (s : List State) (ds : Directives) → Stands s ds → (m e n f : yaml_mark_t) (p : Fault)
    → (read_of (run (over_at m e ∷ end_at n f ∷ []) s None) ds).ending ≡ Some p
    → (behind : List Token) (own : Option Fault)
    → read_of (run (over_at m e ∷ behind) s own) ds ≡ read_of (run (over_at m e ∷ end_at n f ∷ []) s None) ds
over_stays s ds g m e n f p ends behind own =
    by (feed s (over_at m e)) refl (feed_over s ds g m e) (stands_feed s ds g (over_at m e) other)
  where
    other : token.document_end ≢ token.stream_end
    other e = cc

    by : (x : Fed) → feed s (over_at m e) ≡ x → IsOver x → Fine x ds
        → read_of (run (over_at m e ∷ behind) s own) ds ≡ read_of (run (over_at m e ∷ end_at n f ∷ []) s None) ds
    by (stop is q) k h fine = halted (over_at m e) behind s own is q ds k ∙ sym (halted (over_at m e) (end_at n f ∷ []) s None is q ds k)
    by (go is z) k h fine =
        let R = run (end_at n f ∷ []) z None in
        let W = run behind z own in
        let here = went (over_at m e) (end_at n f ∷ []) s z None is ds k in
        went (over_at m e) behind s z own is ds k
        ∙ same_front is ds (items_of W.items) (items_of R.items) W.ending R.ending
        (λ es w told.
        let stands : Stands (state.documents ∷ []) w = subst (λ y. Stands y w) h (fine es w told) in
        let accepts = ap (λ y. (read_of (run (end_at n f ∷ []) y None) w).ending) h ∙ over_accepts n f w stands.1 in
        absurd (none-some _ (sym accepts ∙ sym (ap (λ (q : Plain). q.ending) (here ∙ plain_through is (items_of R.items) R.ending ds w es told)) ∙ ends)))
        ∙ sym here

ended_stay : (front : List Token) (s : List State) (ds : Directives) → Stands s ds → GoOn front
    → (m e n f : yaml_mark_t) (p : Fault)
    → (read_of (run (front ++ over_at m e ∷ end_at n f ∷ []) s None) ds).ending ≡ Some p
    → (behind : List Token) (own : Option Fault)
    → read_of (run (front ++ over_at m e ∷ behind) s own) ds
    ≡ read_of (run (front ++ over_at m e ∷ end_at n f ∷ []) s None) ds
ended_stay [] s ds g goes m e n f p ends behind own = over_stays s ds g m e n f p ends behind own
ended_stay (t ∷ front) s ds g goes m e n f p ends behind own =
    by (feed s t) refl (stands_feed s ds g t goes.0) (λ z w h k. ended_stay front z w h goes.1 m e n f p k behind own)
  where
    by : (x : Fed) → feed s t ≡ x → Fine x ds
        → ((z : List State) (w : Directives) → Stands z w → (read_of (run (front ++ over_at m e ∷ end_at n f ∷ []) z None) w).ending ≡ Some p
        → read_of (run (front ++ over_at m e ∷ behind) z own) w ≡ read_of (run (front ++ over_at m e ∷ end_at n f ∷ []) z None) w)
        → read_of (run (t ∷ (front ++ over_at m e ∷ behind)) s own) ds ≡ read_of (run (t ∷ (front ++ over_at m e ∷ end_at n f ∷ [])) s None) ds
    by (stop is q) k fine rec = halted t (front ++ over_at m e ∷ behind) s own is q ds k ∙ sym (halted t (front ++ over_at m e ∷ end_at n f ∷ []) s None is q ds k)
    by (go is z) k fine rec =
        let R = run (front ++ over_at m e ∷ end_at n f ∷ []) z None in
        let W = run (front ++ over_at m e ∷ behind) z own in
        let here = went t (front ++ over_at m e ∷ end_at n f ∷ []) s z None is ds k in
        went t (front ++ over_at m e ∷ behind) s z own is ds k
        ∙ same_front is ds (items_of W.items) (items_of R.items) W.ending R.ending
        (λ es w told. rec z w (fine es w told) (sym (ap (λ (q : Plain). q.ending) (here ∙ plain_through is (items_of R.items) R.ending ds w es told)) ∙ ends))
        ∙ sym here

pub ended_fronts_stay : EndedFrontsStay
ended_fronts_stay front over last goes ended ends p none behind own =
    let O = body_at over token.document_end over.start_mark ended refl in
    let E = body_at last token.stream_end last.start_mark ends refl in
    let list = ap (λ t. front ++ t ∷ last ∷ []) O ∙ ap (λ t. front ++ over_at over.start_mark over.end_mark ∷ t ∷ []) E in
    let is = ap (λ ts. parse_of ts None) list in
    let mine = parse_plain (front ++ over_at over.start_mark over.end_mark ∷ end_at last.start_mark last.end_mark ∷ []) None in
    let none_there = sym (ap (λ (q : Plain). q.ending) mine) ∙ sym (ap (λ r. r.ending) is) ∙ none in
    let same = parse_plain (front ++ over_at over.start_mark over.end_mark ∷ behind) own
    ∙ ended_stay front initial no_directives (refl, refl) goes over.start_mark over.end_mark last.start_mark last.end_mark p none_there behind own ∙ sym mine in (
      ap (λ t. events_in (parse_of (front ++ t ∷ behind) own)) O ∙ ap (λ (q : Plain). q.events) same ∙ ap events_in (sym is),
      ap (λ t. (parse_of (front ++ t ∷ behind) own).ending) O ∙ ap (λ (q : Plain). q.ending) same ∙ ap (λ r. r.ending) (sym is) ∙ none,
    )
