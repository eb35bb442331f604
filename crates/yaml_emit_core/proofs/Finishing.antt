-- An event laid out leaves what the output ends as.
use Rattle.std.proofs.Common.{◌≡◌, ◌≢◌, List, [], ◌∷◌, Bool, refl, sym, subst, ◌∙◌, arith, Option, Some, None}
use Rattle.yaml_emit_layout.specs.declared.Settings.{Settings}
use Rattle.yaml_emit_layout.specs.declared.Status.{Status}
use Rattle.yaml_emit_layout.specs.declared.Status.TheVariants.{Going}
use Rattle.yaml_emit_layout.specs.Text.{Item}
use Rattle.yaml_emit_layout.specs.Layout.{Rest, nothing_more, written}
use Rattle.yaml_emit_layout.specs.Sink.{Ends, EndsBy, Puts}
use Rattle.yaml_emit_layout.proofs.Sinks.{ends_other, status_cases}
use Rattle.yaml_scan_types.specs.declared.name.yaml_encoding_t.{yaml_encoding_t}
use Rattle.yaml_emit_layout.specs.declared.problem.Problem.{Problem}
use Rattle.yaml_emit_layout.specs.Content.{Event, Document, stream_events}
use Rattle.yaml_emit_layout.specs.Grammar.{or_else, event_problem, last_problem, place_problem, problem_by, own_problem, own_problems}
use Rattle.yaml_emit_layout.specs.Nodes.{stream_layout}
use Rattle.yaml_emit_layout.specs.State.{State, opens_empty, problem_at, piece, top_of}
use Rattle.yaml_emit_layout.specs.ToCome.{stream, events, layout}
use Rattle.yaml_emit_layout.specs.ToCome as come
use Rattle.yaml_emit_layout.proofs.LeadsOn.{Goes, goes}
use Rattle.yaml_emit_core.specs.Steps.{Core, state_of, settings_of, LaysOut, IsFreshCore}
use Rattle.yaml_emit_core.specs.Finish.{Finishes, FinishesAt, FinishesBy}

-- what an output in that status ends as
abbrev At : Core → List Event → List Item → Status → Type 0
At core es whole s = FinishesAt s (settings_of core) (state_of core) core.sink es whole

stopped_by : (s : Status) (core : Core) (es : List Event) (whole : List Item) → s ≢ Going
    → At core es whole s → Ends core.sink [] whole
stopped_by Going core es whole n h = absurd (n refl)
stopped_by _ core es whole n h = h

by_stopped : (s : Status) (core : Core) (es : List Event) (whole : List Item) → s ≢ Going
    → Ends core.sink [] whole → At core es whole s
by_stopped Going core es whole n h = absurd (n refl)
by_stopped _ core es whole n h = h

-- where the first of two problems is none, both are
pub or_else_none : (p q : Option Problem) → or_else p q ≡ None → (p ≡ None) × (q ≡ None)
or_else_none None q e = (refl, e)
or_else_none (Some x) q e = absurd (cc)

none_or_else : (p q : Option Problem) → p ≡ None → q ≡ None → or_else p q ≡ None
none_or_else None q e f = f
none_or_else (Some x) q e f = absurd (cc)

first_right : (canonical : Bool) (e : Event) (es : List Event)
    → own_problems canonical (e ∷ es) ≡ None
    → (own_problem canonical e ≡ None) × (own_problems canonical es ≡ None)
unfolding own_problems
first_right canonical e es h = or_else_none (own_problem canonical e) (own_problems canonical es) h

right_there : (s : Settings) (st : State) (e : Event) → own_problem s.canonical e ≡ None
    → place_problem st.place (top_of st.levels) e ≡ None → problem_at s st e ≡ None
unfolding problem_by
right_there s st e h k =
    let r = or_else_none (event_problem s.canonical e) (last_problem e) h in
    none_or_else (event_problem s.canonical e) (or_else (place_problem st.place (top_of st.levels) e) (last_problem e)) r.0
    (none_or_else (place_problem st.place (top_of st.levels) e) (last_problem e) k r.1)

-- settings and encoding make an emitter's settings
pub same_settings : (old new : Core) → new.settings ≡ old.settings
    → new.sink.encoding ≡ old.sink.encoding → settings_of new ≡ settings_of old
same_settings old new e x = rw (e, x) refl

-- After an event that was laid out the others finish what all would have.
pub finishes_on : (old new : Core) (e : Event) (es : List Event) (whole : List Item)
    → LaysOut old new e (opens_empty e es)
    → Finishes (settings_of old) (state_of old) old.sink (e ∷ es) whole
    → Finishes (settings_of new) (state_of new) new.sink es whole
unfolding Finishes
finishes_on old new e es whole l h =
    status_cases old.sink.status
    (λ g.
    let s : Settings = settings_of old in
    let b : Bool = opens_empty e es in
    let f : FinishesBy (settings_of old) (state_of old) old.sink (e ∷ es) whole = subst (At old (e ∷ es) whole) g h in
    let P : State → Type 0 = λ st. Goes s st e b es f.rest in
    let go : Goes s (state_of old) e b es f.rest = subst P (sym f.fits) (goes s e es f.rest f.same) in
    let r = first_right s.canonical e es f.right in
    let none = right_there s (state_of old) e r.0 go.there in
    let kept : settings_of new ≡ s = same_settings old new l.settings l.text.encoding in
    let text : Puts old.sink new.sink (piece s (state_of old) e b) = rw none at l.text in
    let more : Rest = λ d. layout s (go.rest d) d nothing_more in
    let front : Ends old.sink (piece s (state_of old) e b old.sink.cursor more) whole =
    let Q : List Item → Type 0 = λ t. Ends old.sink t whole in subst Q (go.text old.sink.cursor nothing_more) f.ends in
    let back : Ends new.sink (more new.sink.cursor) whole = text.ends more whole front in
    status_cases new.sink.status
    (λ g'.
    subst (At new es whole) (sym g') (record {
      rest = go.rest new.sink.cursor;
      fits = (rw none at l.state) g' ∙ go.fits new.sink.cursor;
      same = go.same new.sink.cursor;
      right = let Q : Settings → Type 0 = λ z. own_problems z.canonical es ≡ None in subst Q (sym kept) r.1;
      ends = let Q : Settings → Type 0 = λ z. Ends new.sink (layout z (go.rest new.sink.cursor) new.sink.cursor nothing_more) whole in subst Q (sym kept) back;
    }))
    (λ n. by_stopped new.sink.status new es whole n (ends_other new.sink _ [] whole n back)))
    (λ n.
    let e' : Ends old.sink [] whole = stopped_by old.sink.status old (e ∷ es) whole n h in
    let back : Ends new.sink _ whole = l.text.ends nothing_more whole (ends_other old.sink [] _ whole n e') in
    by_stopped new.sink.status new es whole (λ g. n (l.text.going g)) back)

-- A fresh emitter finishes the layout of a stream that is right.
pub fresh_finishes : (core : Core) (s : Settings) (x : yaml_encoding_t) (ds : List Document)
    → IsFreshCore core s → own_problems s.canonical (stream_events x ds) ≡ None
    → Finishes (settings_of core) (state_of core) core.sink (stream_events x ds)
    (written (stream_layout s ds))
unfolding Finishes Ends events layout come.state_of
fresh_finishes core s x ds f r =
    subst (At core (stream_events x ds) _) (sym f.status) (record {
      rest = stream x ds;
      fits = f.state;
      same = refl;
      right = let Q : Settings → Type 0 = λ z. own_problems z.canonical (stream_events x ds) ≡ None in subst Q (sym f.settings) r;
      ends =
          let P : Status → Type 0 = λ t. EndsBy t core.sink.limit core.sink.encoding core.sink.bytes (stream_layout (settings_of core) ds core.sink.cursor nothing_more) (written (stream_layout s ds)) in
          subst P (sym f.status) (rw (f.output, f.settings, f.cursor) refl, (rw f.output (omega arith), (rw (f.settings, f.cursor) refl, rw (f.output, f.settings, f.cursor) refl)));
    })
