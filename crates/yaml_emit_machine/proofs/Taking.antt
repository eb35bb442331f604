-- What becomes of the events that an emitter is given.
use Rattle.std.proofs.Common.{◌≡◌, List, [], ◌∷◌, ◌++◌, Bool, true, false, refl, sym, subst, ◌∙◌, ap, arith, Option, Some, None, append_assoc, option_map}
use Rattle.std.proofs.lemmas.Bool.{false≢true}
use Rattle.yaml_scan_model.specs.scan_types.Faults.{Fault, fault_of}
use Rattle.yaml_scan_model.specs.declared.name.yaml_encoding_t.{yaml_encoding_t}
use Rattle.yaml_emit_layout.specs.declared.Cursor.{Cursor}
use Rattle.yaml_emit_layout.specs.declared.Encoding.{Encoding}
use Rattle.yaml_emit_layout.specs.declared.Settings.{Settings}
use Rattle.yaml_emit_layout.specs.declared.Status.{Status}
use Rattle.yaml_emit_layout.specs.declared.Status.TheVariants.{Going}
use Rattle.yaml_emit_layout.specs.Text.{Item}
use Rattle.yaml_emit_layout.specs.Settings.{settled}
use Rattle.yaml_emit_layout.specs.Layout.{Layout, nothing_more, written}
use Rattle.yaml_emit_layout.specs.Sink.{Output, Ends}
use Rattle.yaml_emit_layout.proofs.Sinks.{grows_none, grows_both, grows_same, ends_other, status_cases}
use Rattle.yaml_emit_layout.specs.declared.Problem.{Problem}
use Rattle.yaml_emit_layout.specs.declared.Expected.TheVariants as at
use Rattle.yaml_emit_layout.specs.Content.{Event}
use Rattle.yaml_emit_layout.specs.State.{State, placed}
use Rattle.yaml_emit_core.specs.Steps.{Core, state_of, settings_of, IsFreshCore}
use Rattle.yaml_emit_core.specs.Finish.{Finishes}
use Rattle.yaml_emit_core.proofs.Noting.{notes_both, notes_some}
use Rattle.yaml_emit_machine.specs.Held.{held_events}
use Rattle.yaml_emit_machine.specs.declared.held.Held.{Held}
use Rattle.yaml_emit_machine.specs.declared.emitter.yaml_emitter_t.TheInside.{Inside}
use Rattle.yaml_emit_layout.specs.Progress.{first_progress, first_refusal}
use Rattle.yaml_emit_machine.specs.Judged.{let_out, refused_at, refusal_among, text_among, refusal_behind, LetsOut, first_wrong, LaysAll, some_among, LaysSome, take_memory}
use Rattle.yaml_emit_machine.specs.Laying.{LaysEvents}
use Rattle.yaml_emit_machine.specs.Emitter.{Emitter, fault_by, refusal_by, stream_encoding, Completes}
use Rattle.yaml_emit_machine.specs.Views.{emitter_of, IsEmitter}
use Rattle.yaml_emit_machine.specs.Verdict.{verdict, Writes, wrong, Lays, LaysFirst, TellsOutcome}
use Rattle.yaml_emit_machine.specs.Taking.{TakesEvents, TakesSoon, Stuck, NotesMemory, NotesMemoryOf, ComesIntoForce}
use Rattle.yaml_emit_machine.proofs.Emitting.{left, inside_begun, stopped_at, begin_finishes}
use Rattle.yaml_emit_machine.proofs.Judging.{or_some, unless_some}

-- ---- one call after another

pub takes_on : (a b c : Emitter) (es fs gs : List Event) → TakesEvents a es b fs
    → TakesEvents b fs c gs → TakesEvents a es c gs
takes_on a b c es fs gs p q = record {
  completes = λ x more whole h. q.completes x more whole (p.completes x more whole h);
  refuses = λ g more. q.refuses g more ∙ p.refuses (q.going g) more;
  writes = λ x more whole h. q.writes x more whole (p.writes x more whole h);
  first = λ g more. q.first g more ∙ p.first (q.going g) more;
  lays = λ x more whole h. q.lays x more whole (p.lays x more whole h);
  grows = grows_both a.output b.output c.output p.grows q.grows;
  going = λ g. p.going (q.going g);
  requested_settings = q.requested_settings ∙ p.requested_settings;
  limit = q.limit ∙ p.limit;
  begun = λ f. let k = q.begun f in let m = p.begun k.0 in (m.0, k.1 ∙ m.1);
}

-- an event is gone from those that were to come
not_first : (e : Event) (es : List Event) → [] ≡ e ∷ es → ⊥
not_first e es h = cc

-- an event was taken, and others are to come
pub takes_first : (old new : Emitter) (e : Event) (es : List Event)
    → TakesEvents old (e ∷ []) new [] → TakesEvents old (e ∷ es) new es
takes_first old new e es t = record {
  completes = λ x more whole h. t.completes x (es ++ more) whole h;
  refuses = λ g more. t.refuses g (es ++ more);
  writes = λ x more whole h. t.writes x (es ++ more) whole h;
  first = λ g more. t.first g (es ++ more);
  lays = λ x more whole h. t.lays x (es ++ more) whole h;
  grows = t.grows;
  going = t.going;
  requested_settings = t.requested_settings;
  limit = t.limit;
  begun = λ f. absurd (not_first e [] (t.begun f).1);
}

-- the others count for nothing
pub takes_stuck : (old new : Emitter) (e : Event) (es : List Event)
    → TakesEvents old (e ∷ []) new [] → Stuck new → TakesEvents old (e ∷ es) new []
takes_stuck old new e es t s = takes_on old new new (e ∷ es) es [] (takes_first old new e es t) (s es [])

-- What one event notes of memory may be noted of any.
pub notes_any : (e : Event) (old new : Emitter) → NotesMemoryOf e old new → NotesMemory true old new
notes_any e old new m = λ n. m (notes_some (take_memory (old.held ++ e ∷ [])) old.status new.status n)

-- What is noted of memory by one call and the next is noted by both.
pub notes_on : (a b c : Emitter) → (b.status ≡ Going → a.status ≡ Going)
    → (c.status ≡ Going → b.status ≡ Going) → NotesMemory true a b → NotesMemory true b c
    → NotesMemory true a c
notes_on a b c p q m n = λ h. let k = notes_both true a.status b.status c.status p q h in n k.1 ∙ m k.0

-- ---- an event was given

pub inside_takes : (i : Inside) (core : Core) (held : Held) (fault : Option Fault) (e : Event)
    → i.fresh ≡ false → i.core.sink.status ≡ Going
    → LaysEvents i.core (held_events i.held ++ e ∷ []) core (held_events held)
    → TakesEvents (emitter_of i) (e ∷ []) (left i core i.fresh (held_events held) fault) []
unfolding Completes verdict Writes wrong Lays
inside_takes i core held fault e fr on l =
    rw fr (record {
      completes = λ x es whole c. (l.on.encoding ∙ c.0, l.on.finishes es whole (rw append_assoc c.1));
      refuses = λ g es. l.refuses g es ∙ ap (refusal_behind (settings_of i.core) (state_of i.core)) (append_assoc (held_events i.held) (e ∷ []) es);
      writes = λ x es whole c. (l.on.encoding ∙ c.0, l.lets_out es whole (rw append_assoc c.1));
      first = λ g es. l.on.first g es ∙ ap (first_wrong (settings_of i.core) (state_of i.core)) (append_assoc (held_events i.held) (e ∷ []) es);
      lays = λ x es whole c. (l.on.encoding ∙ c.0, l.on.lays es whole (rw append_assoc c.1));
      grows = l.on.grows;
      going = λ _. on;
      requested_settings = refl;
      limit = l.on.limit;
      begun = λ f. absurd (false≢true f);
    })

-- ---- the settings came into force

pub ends_new : (o : Output) (t : List Item) → o.bytes ≡ [] → o.status ≡ Going → Ends o t t
unfolding Ends
ends_new o t b g =
    rw (g, b) (refl, (omega arith, (refl, refl)))

-- a text that is laid out from a stream's start on, and its encoding
begin_text : (a : Settings → State → Layout) (core : Core) (s : Settings) (x : Encoding)
    (whole : List Item) → IsFreshCore core s → x ≡ s.encoding
    → whole ≡ written (a s (placed at.StreamStart))
    → ((settings_of core).encoding ≡ x)
    × Ends core.sink (a (settings_of core) (state_of core) core.sink.cursor nothing_more) whole
begin_text a core s x whole f coded is =
    let same : a (settings_of core) (state_of core) core.sink.cursor nothing_more ≡ whole =
    ap (λ (z : Settings). a z (state_of core) core.sink.cursor nothing_more) f.settings
    ∙ ap (λ (z : State). a s z core.sink.cursor nothing_more) f.state
    ∙ ap (λ (z : Cursor). a s (placed at.StreamStart) z nothing_more) f.cursor
    ∙ sym is in
    (ap (λ (z : Settings). z.encoding) f.settings ∙ sym coded, rw same (ends_new core.sink whole f.output f.status))

begin_wrong : (core : Core) (s : Settings) (es : List Event) → IsFreshCore core s
    → first_wrong (settings_of core) (state_of core) es
    ≡ first_refusal s.canonical first_progress es
unfolding first_wrong
begin_wrong core s es f =
    ap (λ (z : Settings). refusal_among z.canonical (state_of core) es) f.settings ∙ ap (λ (z : State). refusal_among s.canonical z es) f.state

pub inside_begins : (i : Inside) (core : Core) (e : Event) (s : Settings) (z : yaml_encoding_t)
    → IsEmitter i → i.fresh ≡ true → s ≡ settled i.requested_settings z → z ≡ stream_encoding e
    → IsFreshCore core s → core.sink.limit ≡ i.limit
    → ComesIntoForce (emitter_of i) e
    (left i core false (held_events i.held) (option_map fault_of i.fault))
unfolding Completes verdict Writes wrong Lays LaysFirst refusal_behind first_wrong LetsOut LaysAll LaysSome
inside_begins i core e s z inv fr a b f most =
    let s' : Settings = settled i.requested_settings (stream_encoding e) in
    let f' : IsFreshCore core s' = rw (← a ∙ ap (settled i.requested_settings) b) f in
    let was : i.core.sink.status ≡ Going = (inv.begun fr).1.1.1 in
    rw (fr, (inv.begun fr).0) (record {
      takes = record {
        completes = λ x es whole c. begin_finishes core i.requested_settings e x es whole f' c;
        refuses = λ g es. begin_wrong core s' (let_out (e ∷ es)) f';
        writes = λ x es whole c. begin_text (λ s st. text_among s st (let_out (e ∷ es))) core s' x whole f' c.coded c.is;
        first = λ g es. begin_wrong core s' (e ∷ es) f';
        lays = λ x es whole c. begin_text (λ s st. text_among s st (e ∷ es)) core s' x whole f' c.coded c.is;
        grows = grows_same i.core.sink.bytes core.sink.bytes (f.output ∙ sym (inv.begun fr).1.1.0);
        going = λ g. was;
        requested_settings = refl;
        limit = most ∙ sym inv.limited;
        begun = λ t. absurd (false≢true t);
      };
      begun = refl;
      fault = (inv.begun fr).1.0;
      status = f.status ∙ sym was;
      held = refl;
      starved = f.starved ∙ sym (inv.memory was);
      front = λ n x more whole c. begin_text (λ s st. some_among n s st (e ∷ more)) core s' x whole f' c.coded c.is;
      keeps = (refl, refl);
    })

-- ---- after a fault

pub refused_by : (s : Status) (b : Bool) (p : Option Problem) (f : Fault) → s ≡ Going
    → fault_by s b p ≡ Some f → (x : Problem) × (p ≡ Some x)
refused_by Going b None f g h = absurd (cc)
refused_by Going b (Some x) f g h = (x, refl)
refused_by s b p f g h = absurd (cc)

pub stuck_first : (core : Core) (f : Fault) (xs ys : List Event)
    → refusal_by core.place core.sink.status core.starved ≡ Some f → core.sink.status ≡ Going
    → first_wrong (settings_of core) (state_of core) xs
    ≡ first_wrong (settings_of core) (state_of core) ys
unfolding first_wrong
stuck_first core f xs ys h g =
    let r = refused_by core.sink.status core.starved (refused_at core.place) f g h in
    or_some (refused_at core.place) _ r.0 r.1 ∙ sym (or_some (refused_at core.place) _ r.0 r.1)

pub stuck_all : (core : Core) (f : Fault) (xs ys : List Event) (whole : List Item)
    → refusal_by core.place core.sink.status core.starved ≡ Some f
    → LaysAll (settings_of core) (state_of core) core.sink xs whole
    → LaysAll (settings_of core) (state_of core) core.sink ys whole
unfolding LaysAll
stuck_all core f xs ys whole h e =
    status_cases core.sink.status
    (λ g.
    let r = refused_by core.sink.status core.starved (refused_at core.place) f g h in
    let P : List Item → Type 0 = λ t. Ends core.sink t whole in
    subst P (unless_some (refused_at core.place) r.0 _ _ _ r.1 ∙ sym (unless_some (refused_at core.place) r.0 _ _ _ r.1)) e)
    (λ n. ends_other core.sink _ _ whole n e)

pub inside_stuck : (i : Inside) → IsEmitter i → (f : Fault) → option_map fault_of i.fault ≡ Some f
    → Stuck (emitter_of i)
unfolding Completes Finishes verdict Writes wrong Lays refusal_behind first_wrong LetsOut LaysAll
inside_stuck i inv f is =
    let h = sym inv.faulty ∙ is in
    rw (inside_begun i inv f is) (λ es left. record {
      completes = λ x more whole c. (c.0, stopped_at i.core.sink.status (settings_of i.core) (state_of i.core) i.core.sink i.core.starved f _ _ whole h c.1);
      refuses = λ g more. stuck_first i.core f (let_out (held_events i.held ++ (left ++ more))) (let_out (held_events i.held ++ (es ++ more))) h g;
      writes = λ x more whole c. (c.0, stuck_all i.core f (let_out (held_events i.held ++ (es ++ more))) (let_out (held_events i.held ++ (left ++ more))) whole h c.1);
      first = λ g more. stuck_first i.core f (held_events i.held ++ (left ++ more)) (held_events i.held ++ (es ++ more)) h g;
      lays = λ x more whole c. (c.0, stuck_all i.core f (held_events i.held ++ (es ++ more)) (held_events i.held ++ (left ++ more)) whole h c.1);
      grows = grows_none i.core.sink.bytes;
      going = λ g. g;
      requested_settings = refl;
      limit = refl;
      begun = λ t. absurd (false≢true t);
    })

-- the same of an event that is laid out as it comes
pub inside_still : (i : Inside) → IsEmitter i → (f : Fault) → option_map fault_of i.fault ≡ Some f
    → (e : Event) → TakesSoon (emitter_of i) e (emitter_of i)
inside_still i inv f is e =
    let t = inside_stuck i inv f is (e ∷ []) [] in
    record {
      completes = t.completes;
      first = t.first;
      lays = t.lays;
      grows = t.grows;
      going = t.going;
      requested_settings = t.requested_settings;
      limit = t.limit;
      memory = λ _. refl;
      blames = λ off on. absurd (false≢true (sym off ∙ on));
      opened = (refl, refl);
      begun = inside_begun i inv f is;
      waits = λ none. let k = sym none ∙ is in absurd (cc);
      stopped = λ none. let k = sym none ∙ is in absurd (cc);
    }

-- ---- that the stream was opened or closed is noted

takes_as_marked : (old mid : Emitter) (es left : List Event) (o k : Bool)
    → TakesEvents old es mid left
    → TakesEvents old es (record mid { opened = o; closed = k }) left
unfolding Completes verdict Writes wrong Lays
takes_as_marked old mid es left o k t = record {
  completes = t.completes;
  refuses = t.refuses;
  writes = t.writes;
  first = t.first;
  lays = t.lays;
  grows = t.grows;
  going = t.going;
  requested_settings = t.requested_settings;
  limit = t.limit;
  begun = t.begun;
}

-- Marking the stream open or closed changes nothing of what was taken.
pub takes_marked : (old mid new : Emitter) (es left : List Event) (o k : Bool)
    → new ≡ record mid { opened = o; closed = k } → TakesEvents old es mid left
    → TakesEvents old es new left
takes_marked old mid new es left o k same t = rw same (takes_as_marked old mid es left o k t)

-- Marking the stream open or closed changes nothing of what is noted.
pub notes_marked : (e : Event) (old mid new : Emitter) (o k : Bool)
    → new ≡ record mid { opened = o; closed = k } → NotesMemoryOf e old mid
    → NotesMemoryOf e old new
notes_marked e old mid new o k same m = rw same m

tells_as_marked : (mid : Emitter) (o k : Bool) → TellsOutcome mid
    → TellsOutcome (record mid { opened = o; closed = k })
unfolding verdict Writes wrong Lays
tells_as_marked mid o k t = record {
  fault = t.fault;
  output = t.output;
  first = t.first;
  front = t.front;
  deep = t.deep;
  memory = t.memory;
}

-- Marking the stream open or closed changes nothing of what is reported.
pub tells_marked : (mid new : Emitter) (o k : Bool) → new ≡ record mid { opened = o; closed = k }
    → TellsOutcome mid → TellsOutcome new
tells_marked mid new o k same t = rw same (tells_as_marked mid o k t)
