-- The events of a dump, one after another, and what they come to.
use Rattle.std.proofs.Common.{◌≡◌, ◌≢◌, ◌∙◌, List, [], ◌∷◌, ◌++◌, length, Bool, true, false, Option, None, refl, sym, subst, ap, arith, ◌<◌, inl, inr, append_assoc}
use Rattle.std.proofs.lemmas.Bool.{cases_Bool, false≢true}
use Rattle.yaml_parse_model.specs.Documents.{Document}
use Rattle.yaml_emit_layout.specs.declared.Encoding.{Encoding}
use Rattle.yaml_emit_layout.specs.declared.Problem.{Problem}
use Rattle.yaml_emit_layout.specs.declared.Status.TheVariants.{Going}
use Rattle.yaml_emit_layout.specs.Text.{Item}
use Rattle.yaml_emit_layout.specs.Layout.{nothing_more}
use Rattle.yaml_emit_layout.specs.Sink.{Ends}
use Rattle.yaml_emit_layout.specs.Content.{Event}
use Rattle.yaml_emit_layout.proofs.Sinks.{ends_other, grows_both, grows_none, status_cases}
use Rattle.yaml_emit_graph.specs.declared.graph.DumpEvent.{DumpEvent}
use Rattle.yaml_emit_graph.specs.declared.graph.DumpEvent.TheVariants as at
use Rattle.yaml_emit_graph.specs.declared.graph.Events.{Events}
use Rattle.yaml_emit_graph.specs.Graph.{dumped}
use Rattle.yaml_emit_graph.specs.Events.{IsEvents, remaining_events, remaining_after, event_at, given_event}
use Rattle.yaml_emit_machine.specs.Emitter.{Emitter, Keeps, left_if, text_of}
use Rattle.yaml_emit_machine.specs.Held.{asks_next, IsWaiting}
use Rattle.yaml_emit_machine.specs.Judged.{AreOut, let_out, refusal_among, refusal_behind, first_wrong, text_among, LetsOut, LaysAll}
use Rattle.yaml_emit_machine.specs.Verdict.{verdict, verdict_by, wrong, wrong_by, Writes, WritesBy, Lays, LaysBy}
use Rattle.yaml_emit_machine.specs.Taking.{TakesEvents, TakesSoon, Stuck, NotesMemory}
use Rattle.yaml_emit_machine.specs.Dumping.{Dumps, LaysDump, MayDump, DumpsSome}
use Rattle.yaml_emit_machine.proofs.Taking.{notes_any, notes_on}

-- ---- one after another

-- Nothing was taken yet.
pub dumps_none : (e : Emitter) (es : List Event) → LaysDump e es e es
dumps_none e es = record {
  completes = λ x more whole h. h;
  first = λ g more. refl;
  lays = λ x more whole h. h;
  grows = grows_none e.output;
  going = λ g. g;
  requested_settings = refl;
  limit = refl;
  begun = λ f. f;
  memory = λ n. refl;
  keeps = (refl, refl);
}

-- Some were taken after others.
pub dumps_on : (a b c : Emitter) (es fs gs : List Event) → LaysDump a es b fs → LaysDump b fs c gs
    → LaysDump a es c gs
dumps_on a b c es fs gs p q = record {
  completes = λ x more whole h. q.completes x more whole (p.completes x more whole h);
  first = λ g more. q.first g more ∙ p.first (q.going g) more;
  lays = λ x more whole h. q.lays x more whole (p.lays x more whole h);
  grows = grows_both a.output b.output c.output p.grows q.grows;
  going = λ g. p.going (q.going g);
  requested_settings = q.requested_settings ∙ p.requested_settings;
  limit = q.limit ∙ p.limit;
  begun = λ f. q.begun (p.begun f);
  memory = notes_on a b c p.going q.going p.memory q.memory;
  keeps = (q.keeps.0 ∙ p.keeps.0, q.keeps.1 ∙ p.keeps.1);
}

-- what is said of those that are let out is left away
dumps_of : (a b : Emitter) (es left : List Event) → TakesEvents a es b left → NotesMemory true a b
    → Keeps a b → LaysDump a es b left
dumps_of a b es left t memory keeps = record {
  completes = t.completes;
  first = t.first;
  lays = t.lays;
  grows = t.grows;
  going = t.going;
  requested_settings = t.requested_settings;
  limit = t.limit;
  begun = λ f. elim (cases_Bool b.fresh) [
    | inl fresh ↦ absurd (false≢true (sym f ∙ (t.begun fresh).0))
    | inr begun ↦ begun
  ];
  memory = memory;
  keeps = keeps;
}

-- the first of those that are left was taken
dumps_first : (old new : Emitter) (e : Event) (es : List Event) → TakesSoon old e new
    → LaysDump old (e ∷ es) new es
dumps_first old new e es t = record {
  completes = λ x more whole h. t.completes x (es ++ more) whole h;
  first = λ g more. t.first g (es ++ more);
  lays = λ x more whole h. t.lays x (es ++ more) whole h;
  grows = t.grows;
  going = t.going;
  requested_settings = t.requested_settings;
  limit = t.limit;
  begun = λ _. t.begun;
  memory = notes_any e old new t.memory;
  keeps = t.opened;
}

-- after a fault the others count for nothing
dumps_by : (b : Bool) (old new : Emitter) (e : Event) (es : List Event) → TakesSoon old e new
    → (b ≡ false → Stuck new) → LaysDump old (e ∷ es) new (left_if b es)
dumps_by true old new e es t stuck = dumps_first old new e es t
dumps_by false old new e es t stuck =
    dumps_on old new new (e ∷ es) es [] (dumps_first old new e es t) (dumps_of new new es [] (stuck refl es []) (λ n. refl) (refl, refl))

-- Memory was refused for what was to come.
pub dumps_starved : (d : Document) (old new : Emitter) (before after : Events)
    → ((es : List Event) → Dumps old es new []) → new.status ≢ Going
    → DumpsSome d old new before after false
dumps_starved d old new before after t stopped =
    let dumps = t (remaining_events d before) in
    record {
      dumps = dumps_of old new (remaining_events d before) [] dumps.takes dumps.memory dumps.keeps;
      on = λ on. absurd (false≢true on);
      less = λ on. absurd (false≢true on);
      none = λ _ g. absurd (stopped g);
    }

-- None was left.
pub dumps_done : (d : Document) (old : Emitter) (before after : Events) → MayDump d old before
    → remaining_events d before ≡ [] → DumpsSome d old old before after false
dumps_done d old before after may none =
    let P : List Event → Type 0 = λ z. LaysDump old z old [] in
    record {
      dumps = subst P (sym none) (dumps_none old []);
      on = λ on. absurd (false≢true on);
      less = λ on. absurd (false≢true on);
      none = λ _ _. may.none none;
    }

not_none : (es : List Event) (e : Event) → es ++ e ∷ [] ≡ [] → ⊥
not_none [] e h = cc
not_none (f ∷ es) e h = cc

last_waits : (c : Bool) (a : DumpEvent) (d : Document) (events : Events)
    → remaining_after a d events ≡ [] → asks_next c (event_at a d events) ≡ false
last_waits c at.None d events h = absurd (cc)
last_waits c at.Start d events h = absurd (not_none _ _ h)
last_waits c (at.Turn t) d events h = absurd (not_none _ _ h)
last_waits true at.End d events h = refl
last_waits false at.End d events h = refl

none_waits : (c : Bool) (e : Event) (held : List Event) → IsWaiting c e held
    → asks_next c e ≡ false → held ≡ []
none_waits c e held h off = elim h [ inl none ↦ none | inr k ↦ absurd (false≢true (sym off ∙ k.1)) ]

-- The first event of those that are left was taken; after a fault the others count for nothing.
pub dumps_event : (d : Document) (old new : Emitter) (before after : Events) (b : Bool)
    → old.fault ≡ None → remaining_events d before ≡ given_event d after ∷ remaining_events d after
    → IsEvents after → TakesSoon old (given_event d after) new → (b ≡ true → new.fault ≡ None)
    → (b ≡ false → new.fault ≢ None) → (b ≡ false → Stuck new)
    → DumpsSome d old new before after b
unfolding remaining_events
dumps_event d old new before after b right comes walk t on off stuck =
    let e = given_event d after in
    let left = remaining_events d after in
    let P : List Event → Type 0 = λ z. LaysDump old z new (left_if b left) in
    let Q : List Event → Type 0 = λ z. length left < length z in
    let c = old.requested_settings.canonical in
    record {
      dumps = subst P (sym comes) (dumps_by b old new e left t stuck);
      on = λ going. record {
        walk = walk;
        begun = t.begun;
        right = on going;
        none = λ none. none_waits c e new.held (t.waits right) (last_waits c after.at d after none);
      };
      less = λ _. subst Q (sym comes) (omega arith);
      none = λ stops _. t.stopped right (off stops);
    }

pub dumped_some : (d : Document) → dumped d ≢ []
unfolding dumped
dumped_some d h = cc

-- ---- all of them are let out

let_out_all : (hs es more : List Event) → AreOut (hs ++ es)
    → let_out (hs ++ (es ++ more)) ≡ hs ++ (es ++ let_out more)
let_out_all hs es more out =
    ap let_out (sym (append_assoc hs es more)) ∙ out more ∙ append_assoc hs es (let_out more)

verdict_out : (e : Emitter) (es more : List Event) → e.fresh ≡ false → AreOut (e.held ++ es)
    → verdict e (es ++ more) ≡ wrong e (es ++ let_out more)
unfolding verdict wrong refusal_behind first_wrong
verdict_out e es more begun out =
    let F : List Event → Option Problem = λ z. refusal_among e.course.settings.canonical e.course.state z in
    ap (λ (b : Bool). verdict_by b e (es ++ more)) begun ∙ ap F (let_out_all e.held es more out) ∙ sym (ap (λ (b : Bool). wrong_by b e (es ++ let_out more)) begun)

-- what is written for these, after what is held
abbrev IsText : Emitter → Encoding → List Item → List Event → Type 0
IsText e x whole es = (e.course.settings.encoding ≡ x)
    × Ends (text_of e) (text_among e.course.settings e.course.state es e.course.cursor nothing_more)
    whole

writes_text : (e : Emitter) (x : Encoding) (es : List Event) (whole : List Item) → e.fresh ≡ false
    → Writes e x es whole → IsText e x whole (let_out (e.held ++ es))
unfolding Writes LetsOut
writes_text e x es whole begun h = subst (λ (b : Bool). WritesBy b e x es whole) begun h

text_writes : (e : Emitter) (x : Encoding) (es : List Event) (whole : List Item) → e.fresh ≡ false
    → IsText e x whole (let_out (e.held ++ es)) → Writes e x es whole
unfolding Writes LetsOut
text_writes e x es whole begun h = subst (λ (b : Bool). WritesBy b e x es whole) (sym begun) h

text_lays : (e : Emitter) (x : Encoding) (es : List Event) (whole : List Item) → e.fresh ≡ false
    → IsText e x whole (e.held ++ es) → Lays e x es whole
unfolding Lays LaysAll
text_lays e x es whole begun h = subst (λ (b : Bool). LaysBy b e x es whole) (sym begun) h

lays_text : (e : Emitter) (x : Encoding) (es : List Event) (whole : List Item) → e.fresh ≡ false
    → Lays e x es whole → IsText e x whole (e.held ++ es)
unfolding Lays LaysAll
lays_text e x es whole begun h = subst (λ (b : Bool). LaysBy b e x es whole) begun h

-- where nothing is held, or the output has stopped, what is written of all that is let out is what is written
writes_out : (e : Emitter) (x : Encoding) (more : List Event) (whole : List Item)
    → e.fresh ≡ false → (e.status ≡ Going → e.held ≡ []) → Lays e x (let_out more) whole
    → Writes e x more whole
writes_out e x more whole begun none h =
    let text = lays_text e x (let_out more) whole begun h in
    let same : e.held ≡ [] → e.held ++ let_out more ≡ let_out (e.held ++ more) = λ n. rw n refl in
    text_writes e x more whole begun (status_cases e.status (λ going. subst (IsText e x whole) (same (none going)) text) (λ stopped. (text.0, ends_other (text_of e) _ _ whole stopped text.1)))

-- A whole dump is taken, whose events are all let out, with what was held before.
pub dumps_whole : (old new : Emitter) (es : List Event) → old.fresh ≡ false
    → AreOut (old.held ++ es) → LaysDump old es new [] → (new.status ≡ Going → new.held ≡ [])
    → TakesEvents old es new []
dumps_whole old new es begun out l none =
    let on = l.begun begun in
    let P : List Event → Type 0 = λ z. AreOut (z ++ []) in
    record {
      completes = l.completes;
      refuses = λ g more. verdict_out new [] more on (subst P (sym (none g)) (λ rest. refl)) ∙ l.first g (let_out more) ∙ sym (verdict_out old es more begun out);
      writes = λ x more whole h.
          let text = subst (IsText old x whole) (let_out_all old.held es more out) (writes_text old x (es ++ more) whole begun h) in
          writes_out new x more whole on none (l.lays x (let_out more) whole (text_lays old x (es ++ let_out more) whole begun text));
      first = l.first;
      lays = l.lays;
      grows = l.grows;
      going = l.going;
      requested_settings = l.requested_settings;
      limit = l.limit;
      begun = λ fresh. absurd (false≢true (sym on ∙ fresh));
    }
