-- What is seen of an emitter, what it completes, and what it reports.
use Rattle.std.proofs.Common.{List, Bool, Option, option_map, ◌≡◌, ℕ, [], ◌∷◌, ◌++◌, true, false, refl, sym, subst, inl, inr, ◌∙◌, ap, Some, None, arith, append-nil}
use Rattle.yaml_scan_model.specs.scan_types.Faults.{Fault, fault_of, memory_fault, IsMemoryFault, emit_layers}
use Rattle.yaml_emit_layout.specs.declared.RequestedSettings.{RequestedSettings}
use Rattle.yaml_emit_layout.specs.Content.{Event, stream_start}
use Rattle.yaml_emit_core.specs.Steps.{Core, state_of, settings_of, goes_on, IsFreshCore}
use Rattle.yaml_emit_machine.specs.declared.emitter.yaml_emitter_t.TheInside.{Inside}
use Rattle.yaml_emit_machine.specs.Emitter.{Emitter, write_error, too_deep, problem_fault, memory_origin, fault_by, refusal_by, IsLimited, stream_encoding, CompletesBy, Completes, HasWritten, ShowsFront, Says}
use Rattle.yaml_scan_model.specs.declared.name.yaml_encoding_t.{yaml_encoding_t}
use Rattle.yaml_emit_layout.specs.declared.Encoding.{Encoding}
use Rattle.yaml_emit_layout.specs.declared.Settings.{Settings}
use Rattle.yaml_emit_layout.specs.declared.Status.{Status}
use Rattle.yaml_emit_layout.specs.declared.Status.TheVariants.{Going, Full, Deep, Starved}
use Rattle.yaml_emit_layout.specs.Text.{Item, encode, is_deep, shallow}
use Rattle.yaml_emit_layout.specs.Settings.{settled}
use Rattle.yaml_emit_layout.specs.Sink.{Output, Ends, EndsBy}
use Rattle.yaml_emit_layout.specs.Layout.{Layout, stay, nothing_more, written}
use Rattle.yaml_emit_layout.proofs.Sinks.{deep_written}
use Rattle.yaml_emit_layout.specs.declared.Problem.{Problem}
use Rattle.yaml_emit_layout.specs.declared.Expected.TheVariants as at
use Rattle.yaml_emit_layout.specs.Grammar.{own_problems, or_else}
use Rattle.yaml_emit_layout.specs.Nodes.{stream_layout}
use Rattle.yaml_emit_layout.specs.State.{State}
use Rattle.yaml_emit_layout.specs.ToCome.{ToCome, frames, levels_of, layout}
use Rattle.yaml_emit_layout.specs.ToCome as come
use Rattle.yaml_emit_core.specs.Finish.{Finishes, FinishesAt, FinishesBy}
use Rattle.yaml_emit_core.proofs.Finishing.{fresh_finishes}
use Rattle.yaml_emit_layout.specs.Streams.{IsStream}
use Rattle.yaml_emit_machine.proofs.Judging.{going_open, goes_going, open_goes, or_some, unless_some, held_stays}
use Rattle.yaml_emit_machine.specs.Views.{emitter_of, IsEmitter}
use Rattle.yaml_emit_machine.specs.Judged.{refused_at, let_out, unless, laid, refusal_behind, LetsOut, first_wrong, LaysAll}
use Rattle.yaml_emit_machine.proofs.Ending.{IsAll, all_by}
use Rattle.yaml_emit_layout.specs.declared.Cursor.{Cursor}
use Rattle.yaml_emit_machine.specs.Held.{held_events, is_ready}
use Rattle.yaml_emit_layout.specs.Progress.{Progress, first_refusal}
use Rattle.yaml_emit_machine.specs.Verdict.{verdict, Writes, wrong, Lays, HasLetOut, TellsOutcome}

-- an emitter after what was laid out, by whether no event was given and by what is held
abbrev pub left : Inside → Core → Bool → List Event → Option Fault → Emitter
left i core fresh held fault = record {
  requested_settings = i.requested_settings;
  limit = core.sink.limit;
  held = held;
  output = core.sink.bytes;
  fresh = fresh;
  opened = i.opened;
  closed = i.closed;
  fault = fault;
  course = record {
    settings = settings_of core;
    state = state_of core;
    cursor = core.sink.cursor;
  };
  status = core.sink.status;
  starved = core.starved;
}

-- the emitter as it was
abbrev pub stood : Inside → Bool → List Event → Emitter
stood i fresh held = left i i.core fresh held (option_map fault_of i.fault)

-- without a fault an output goes on and there is no problem
pub none_by : (s : Status) (b : Bool) (p : Option Problem) → fault_by s b p ≡ None
    → (s ≡ Going) × (p ≡ None)
none_by Going b None h = (refl, refl)
none_by s b p h = absurd (cc)

-- what is to come is at no refused place
never_refused : (k : ToCome) → refused_at (come.state_of k).place ≡ None
unfolding come.state_of levels_of
never_refused (frames g [] implicit ds) = refl
never_refused (frames g (f ∷ fs) implicit ds) = refl
never_refused _ = refl

-- going on, a refusal is that of a refused event
going_right : (v : Settings) (st : State) (o : Output) (es : List Event) (whole : List Item)
    → FinishesBy v st o es whole → refused_at st.place ≡ None
going_right v st o es whole r = ap (λ (z : State). refused_at z.place) r.fits ∙ never_refused r.rest

-- after a fault the events that come count for nothing
pub stopped_at : (s : Status) (v : Settings) (st : State) (o : Output) (levels : Bool) (f : Fault)
    (xs ys : List Event) (whole : List Item) → refusal_by st.place s levels ≡ Some f
    → FinishesAt s v st o xs whole → FinishesAt s v st o ys whole
stopped_at Going v st o levels f xs ys whole h r = let k = ap (option_map problem_fault) (going_right v st o xs whole r) in absurd (cc)
stopped_at s v st o levels f xs ys whole h r = r

-- the settings came into force
pub begin_finishes : (core : Core) (w : RequestedSettings) (e : Event) (x : Encoding)
    (es : List Event) (whole : List Item) → IsFreshCore core (settled w (stream_encoding e))
    → IsStream w x (e ∷ es) whole
    → ((settings_of core).encoding ≡ x)
    × Finishes (settings_of core) (state_of core) core.sink (e ∷ es) whole
begin_finishes core w e x es whole f k =
    let head : e ≡ stream_start k.encoding = (let w = k.same in cc) in
    let s : Settings = settled w k.encoding in
    let F : yaml_encoding_t → Type 0 = λ z. IsFreshCore core (settled w z) in
    let f' : IsFreshCore core s = subst F (ap stream_encoding head) f in
    let O : List Event → Type 0 = λ t. own_problems w.canonical t ≡ None in
    let done = fresh_finishes core s k.encoding k.documents f' (subst O k.same k.right) in
    let R : List Event → Type 0 = λ t. Finishes (settings_of core) (state_of core) core.sink t (written (stream_layout s k.documents)) in
    let S : List Item → Type 0 = λ t. Finishes (settings_of core) (state_of core) core.sink (e ∷ es) t in
    (ap (λ (z : Settings). z.encoding) f'.settings ∙ sym k.coded, subst S (sym k.is) (subst R (sym k.same) done))

-- what is still to come of a text
pub finishes_ends : (s : Status) (v : Settings) (st : State) (o : Output) (es : List Event)
    (whole : List Item) → FinishesAt s v st o es whole
    → (a : Layout) × Ends o (a o.cursor nothing_more) whole
finishes_ends Going v st o es whole h = (layout v h.rest, h.ends)
finishes_ends s v st o es whole h = (stay, h)

pub written_by : (s : Status) (limit : ℕ) (x : Encoding) (bytes : List ℕ) (text whole : List Item)
    → EndsBy s limit x bytes text whole → HasWritten s limit bytes (encode x whole) (is_deep whole)
written_by Going limit x bytes text whole h = (encode x text, h.0)
written_by Full limit x bytes text whole h = h
written_by Deep limit x bytes text whole h = (h.0, deep_written x bytes whole h.1)
written_by Starved limit x bytes text whole h = h

front_by : (b : Bool) (i : Inside) (x : Encoding) (es : List Event) (whole : List Item)
    → b ≡ i.fresh → IsEmitter i → CompletesBy b (emitter_of i) x es whole
    → HasWritten i.core.sink.status i.core.sink.limit i.core.sink.bytes (encode x whole) (is_deep whole)
unfolding Finishes Ends
front_by true i x es whole fr inv h = let k = inv.begun (sym fr) in rw (k.1.1.1, k.1.1.0) (encode x whole, refl)
front_by false i x es whole fr inv h =
    let o = i.core.sink in
    rw (← h.0) (written_by o.status o.limit o.encoding o.bytes _ whole (finishes_ends o.status (settings_of i.core) (state_of i.core) o _ whole h.1).1)

pub inside_front : (i : Inside) → IsEmitter i → ShowsFront (emitter_of i) i.core.sink.bytes
unfolding Completes
inside_front i inv = λ x es whole h. front_by i.fresh i x es whole refl inv h

-- going on, an emitter with a fault completes no text
going_never : (e : Emitter) (f : Fault) (x : Encoding) (es : List Event) (whole : List Item)
    → e.fresh ≡ false → e.status ≡ Going
    → option_map problem_fault (refused_at e.course.state.place) ≡ Some f → Completes e x es whole
    → ⊥
unfolding Completes Finishes
going_never e f x es whole b g h c =
    let k = rw (b, g) at c in
    let r = ap (option_map problem_fault) (going_right _ e.course.state _ _ whole k.1) in
    cc

some_same : (g f : Fault) → Some g ≡ Some f → f ≡ g
some_same g f h = cc

starved_fault : (levels : Bool) (f : Fault) → f ≡ memory_fault (memory_origin levels)
    → IsMemoryFault emit_layers f
starved_fault true f h = inl h
starved_fault false f h = inr h

limited_by : (s : Status) (e : Emitter) (f : Fault) → e.status ≡ s → e.fresh ≡ false
    → refusal_by e.course.state.place s e.starved ≡ Some f
    → ((x : Encoding) (es : List Event) (whole : List Item) → Completes e x es whole
    → HasWritten s e.limit e.output (encode x whole) (is_deep whole)) → IsLimited e f
limited_by Going e f s b h w = inr (λ x es whole c. absurd (going_never e f x es whole b s h c))
limited_by Full e f s b h w = inr (λ x es whole c. inl (some_same write_error f h, (w x es whole c).1))
limited_by Deep e f s b h w = inr (λ x es whole c. inr (some_same too_deep f h, (w x es whole c).0))
limited_by Starved e f s b h w = inl (starved_fault e.starved f (some_same (memory_fault (memory_origin e.starved)) f h))

-- going on, there is no fault
pub unnoted : (core : Core) (f : Option Fault) → f ≡ None
    → goes_on core.sink.status core.place ≡ true
    → f ≡ refusal_by core.place core.sink.status core.starved
unnoted core f none h = rw (goes_going core.sink.status core.place h, going_open core.sink.status core.place h) none

pub fresh_refusal : (core : Core) (s : Settings) → IsFreshCore core s
    → refusal_by core.place core.sink.status core.starved ≡ None
fresh_refusal core s f = let k : core.place ≡ at.StreamStart = ap (λ (z : State). z.place) f.state in rw (k, f.status) refl

-- with no fault the output goes on to the next event
pub inside_going : (i : Inside) → IsEmitter i → option_map fault_of i.fault ≡ None
    → i.core.sink.status ≡ Going
inside_going i inv none = (none_by i.core.sink.status i.core.starved (refused_at i.core.place) (sym inv.faulty ∙ none)).0

pub inside_goes : (i : Inside) → IsEmitter i → option_map fault_of i.fault ≡ None
    → goes_on i.core.sink.status i.core.place ≡ true
inside_goes i inv none = let k = none_by i.core.sink.status i.core.starved (refused_at i.core.place) (sym inv.faulty ∙ none) in open_goes i.core.sink.status i.core.place k.0 k.1

-- and, with no event to come, has the whole, which passes no limit
pub inside_all : (i : Inside) → IsEmitter i → option_map fault_of i.fault ≡ None → (x : Encoding)
    (whole : List Item) → Completes (emitter_of i) x [] whole → IsAll i.core.sink x whole
unfolding Completes
inside_all i inv none x whole h = all_by i.fresh (emitter_of i) x whole (inside_going i inv none) (inv.few (inside_goes i inv none)) h

pub not_true : (b : Bool) → (b ≡ true → ⊥) → b ≡ false
not_true false n = refl
not_true true n = absurd (n refl)

-- an emitter with a fault was given an event
pub inside_begun : (i : Inside) → IsEmitter i → (f : Fault) → option_map fault_of i.fault ≡ Some f
    → i.fresh ≡ false
inside_begun i inv f is = not_true i.fresh (λ t. let k = (inv.begun t).1.0 in cc)

-- why an emitter has a fault
pub inside_limited : (i : Inside) → IsEmitter i → (f : Fault) → option_map fault_of i.fault ≡ Some f
    → IsLimited (emitter_of i) f
inside_limited i inv f is = limited_by i.core.sink.status (emitter_of i) f refl (inside_begun i inv f is) (sym inv.faulty ∙ is) (inside_front i inv)

-- all that was let out is there, and an output that an indentation has stopped has all before that
told_by : (s : Status) (limit : ℕ) (x : Encoding) (bytes : List ℕ) (text whole : List Item)
    → (s ≡ Going → text ≡ []) → EndsBy s limit x bytes text whole
    → HasLetOut s limit bytes (encode x whole) (is_deep whole)
    × (s ≡ Deep → bytes ≡ encode x (shallow whole))
unfolding encode is_deep
told_by Going limit x bytes text whole n h = let k = rw (n refl) at h in ((sym (k.0 ∙ append-nil bytes), (k.1.0, k.1.1.0)), λ d. absurd (cc))
told_by Deep limit x bytes text whole n h = (written_by Deep limit x bytes text whole h, λ d. h.1)
told_by s limit x bytes text whole n h = (written_by s limit x bytes text whole h, λ d. absurd (cc))

-- nothing is to come after a refusal, and what is held isn't let out
refusal_now : (p : Option Problem) (canonical : Bool) (h : Progress) (es : List Event)
    → (p ≡ None → is_ready es ≡ false) → p ≡ or_else p (first_refusal canonical h (let_out es))
unfolding first_refusal
refusal_now None canonical h es w = sym (ap (first_refusal canonical h) (held_stays es (w refl)))
refusal_now (Some x) canonical h es w = refl

text_now : (p : Option Problem) (s : Settings) (st : State) (es : List Event) (c : Cursor)
    → (p ≡ None → is_ready es ≡ false) → unless p (laid s st (let_out es)) c nothing_more ≡ []
unfolding laid
text_now None s st es c w = ap (λ z. laid s st z c nothing_more) (held_stays es (w refl))
text_now (Some x) s st es c w = refl

fault_now : (s : Status) (b : Bool) (p q : Option Problem) → (s ≡ Going → p ≡ q)
    → fault_by s b p ≡ fault_by s b q
fault_now Going b p q h = ap (option_map problem_fault) (h refl)
fault_now s b p q h = refl

waits_now : (i : Inside) → IsEmitter i → i.core.sink.status ≡ Going → refused_at i.core.place ≡ None
    → is_ready (held_events i.held ++ []) ≡ false
waits_now i inv g o = ap is_ready (append-nil (held_events i.held)) ∙ inv.few (open_goes i.core.sink.status i.core.place g o)

verdict_now : (i : Inside) → IsEmitter i → i.core.sink.status ≡ Going
    → refused_at i.core.place
    ≡ refusal_behind (settings_of i.core) (state_of i.core) (held_events i.held ++ [])
unfolding refusal_behind
verdict_now i inv g = refusal_now (refused_at i.core.place) _ _ (held_events i.held ++ []) (waits_now i inv g)

told_now : (i : Inside) (x : Encoding) (whole : List Item) → IsEmitter i
    → Says LetsOut (emitter_of i) x [] whole
    → HasLetOut i.core.sink.status i.core.sink.limit i.core.sink.bytes (encode x whole)
    (is_deep whole) × (i.core.sink.status ≡ Deep → i.core.sink.bytes ≡ encode x (shallow whole))
unfolding LetsOut Ends
told_now i x whole inv k =
    rw (← k.0) (told_by i.core.sink.status i.core.sink.limit i.core.sink.encoding i.core.sink.bytes _ whole (λ g. text_now (refused_at i.core.place) _ _ (held_events i.held ++ []) _ (waits_now i inv g)) k.1)

-- after a refused event
refused_front : (i : Inside) (p : Problem) (x : Encoding) (more : List Event) (whole : List Item)
    → i.core.sink.status ≡ Going → refused_at i.core.place ≡ Some p
    → Says LaysAll (emitter_of i) x more whole → i.core.sink.bytes ≡ encode x whole
unfolding LaysAll Ends
refused_front i p x more whole g r k =
    let t = (told_by i.core.sink.status i.core.sink.limit i.core.sink.encoding i.core.sink.bytes _ whole (λ _. unless_some (refused_at i.core.place) p _ _ _ r) k.1).0 in
    let all = rw g at t in
    rw (← k.0) all.0

-- ---- a fresh one

first_output : (i : Inside) (x : Encoding) (whole : List Item) → IsEmitter i → true ≡ i.fresh
    → whole ≡ []
    → HasLetOut i.core.sink.status i.core.sink.limit i.core.sink.bytes (encode x whole) (is_deep whole)
unfolding encode is_deep
first_output i x whole inv fr none = let k = inv.begun (sym fr) in rw (k.1.1.1, k.1.1.0, none) (refl, (omega arith, refl))

tells_by : (b : Bool) (i : Inside) → b ≡ i.fresh → IsEmitter i
    → TellsOutcome (stood i b (held_events i.held))
unfolding verdict Writes wrong Lays first_wrong first_refusal let_out laid
tells_by true i fr inv = record {
  fault = inv.faulty ∙ fault_now i.core.sink.status i.core.starved _ _ (λ g. (none_by i.core.sink.status i.core.starved _ (sym inv.faulty ∙ (inv.begun (sym fr)).1.0)).1);
  output = λ x whole h. first_output i x whole inv fr h.is;
  first = λ g p v. absurd (cc);
  front = λ g p v. absurd (cc);
  deep = λ d. let g = (inv.begun (sym fr)).1.1.1 in absurd (cc);
  memory = inv.memory;
}
tells_by false i fr inv = record {
  fault = inv.faulty ∙ fault_now i.core.sink.status i.core.starved _ _ (verdict_now i inv);
  output = λ x whole h. (told_now i x whole inv h).0;
  first = λ g p v more. or_some (refused_at i.core.place) _ p (verdict_now i inv g ∙ v);
  front = λ g p v x more whole h. refused_front i p x more whole g (verdict_now i inv g ∙ v) h;
  deep = λ d x whole h. (told_now i x whole inv h).1 d;
  memory = inv.memory;
}

pub inside_tells : (i : Inside) → IsEmitter i → TellsOutcome (emitter_of i)
inside_tells i inv = tells_by i.fresh i refl inv
