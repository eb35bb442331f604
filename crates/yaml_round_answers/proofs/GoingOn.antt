-- From what is said of an emitter that continues from a checkpoint to what is said of the events
-- that it was given.
use Rattle.std.proofs.Common.{◌≡◌, ◌⊎◌, ◌≤◌, inl, inr, ℕ, Bool, true, false, List, [], ◌∷◌, ◌++◌, length, refl, sym, ap, ◌∙◌, subst, arith, append-nil, Option, None, Some, Result, Ok, Err}
use Rattle.std.proofs.lemmas.Bool.{false≢true}
use Rattle.yaml_parse.specs.declared.yaml_fault_t.{yaml_fault_t}
use Rattle.yaml_parse.specs.scan_types.Faults.{Fault, fault_of, IsMemoryFault, emit_layers, Answers}
use Rattle.yaml_emit.specs.Content.{Event}
use Rattle.yaml_emit.specs.Text.{Item, encode, is_deep}
use Rattle.yaml_emit.specs.Layout.{start, nothing_more}
use Rattle.yaml_emit.specs.Judged.{let_out, laid, text_from, refusal_behind, refused_at, LetsOut}
use Rattle.yaml_emit.specs.Held.{AreLast}
use Rattle.yaml_emit.specs.Within.{Fits}
use Rattle.yaml_emit.specs.Verdict.{verdict, verdict_by, Writes, WritesBy, HasLetOut, TellsOutcome, first_settings}
use Rattle.yaml_emit.specs.Emitter.{Emitter, settings_in, text_of, problem_fault, Passes}
use Rattle.yaml_emit.specs.emit_layout.State.{State, placed}
use Rattle.yaml_emit.specs.emit_layout.declared.Expected.TheVariants as at
use Rattle.yaml_emit.specs.emit_layout.declared.Problem.{Problem}
use Rattle.yaml_emit.specs.emit_layout.Sink.{Ends, EndsBy}
use Rattle.yaml_emit.specs.emit_layout.declared.Cursor.{Cursor}
use Rattle.yaml_emit.specs.emit_layout.declared.Encoding.{Encoding}
use Rattle.yaml_emit.specs.emit_layout.declared.RequestedSettings.{RequestedSettings}
use Rattle.yaml_emit.specs.emit_layout.declared.Settings.{Settings}
use Rattle.yaml_emit.specs.emit_layout.declared.Status.{Status}
use Rattle.yaml_emit.specs.emit_layout.declared.Status.TheVariants.{Going}
use Rattle.yaml_round_laws.specs.Pieces.{Stand, added}
use Rattle.yaml_round_laws.specs.Calls.{LeadsIn}
use Rattle.yaml_round_answers.specs.declared.onward.Onward.{Onward}
use Rattle.yaml_round_answers.specs.declared.standing.yaml_c_stand.{yaml_c_stand}
use Rattle.yaml_round_answers.specs.declared.standing.yaml_c_place.{yaml_c_place}
use Rattle.yaml_round_answers.specs.Written.{whole_text}
use Rattle.yaml_round_answers.specs.Leading.{StartsUnder, LeadsOnward, TakesAllEvents}
use Rattle.yaml_round_answers.specs.Standing.{At}
use Rattle.yaml_round_answers.specs.Onward.{added_on, refusal_on, AddsWholeText, GoesFrom, StartsFrom, TellsStand, TellsAt, GoneOn, StopsOn, Means, IsOnward, onward_of, at_of}
use Rattle.yaml_round_answers.proofs.Leading.{first_writes, first_verdict, has_all, fits, some_fault}
use Rattle.yaml_emit.proofs.Opened.{none_by}
use Rattle.yaml_emit.proofs.Blaming.{ends_new}
use Rattle.yaml_emit.proofs.Emitting.{not_true}
use Rattle.yaml_emit.proofs.Finishing.{or_else_none}

-- ---- an emitter that was given nothing

abbrev text_at : Settings → State → Cursor → List Event → List Item
text_at s st c es = text_from s st es c nothing_more

same_text : (e : Emitter) (s : Settings) (st : State) (c : Cursor) (es : List Event)
    → e.course.settings ≡ s → e.course.state ≡ st → e.course.cursor ≡ c → e.held ≡ []
    → text_at e.course.settings e.course.state e.course.cursor (e.held ++ es) ≡ text_at s st c es
same_text e s st c es a b d h =
    ap (λ (z : Settings). text_at z e.course.state e.course.cursor (e.held ++ es)) a
    ∙ ap (λ (z : State). text_at s z e.course.cursor (e.held ++ es)) b
    ∙ ap (λ (z : Cursor). text_at s st z (e.held ++ es)) d
    ∙ ap (λ (z : List Event). text_at s st c (z ++ es)) h

from_writes : (e : Emitter) (w : RequestedSettings) (limit : ℕ) (a : At) (es : List Event)
    → GoesFrom e w limit a
    → Writes e a.encoding es (text_at (settings_in w a.encoding) a.state a.cursor es)
unfolding Writes LetsOut
from_writes e w limit a es g =
    let whole = text_at (settings_in w a.encoding) a.state a.cursor es in
    let same = same_text e (settings_in w a.encoding) a.state a.cursor es g.settings g.state g.cursor g.held in
    subst (λ (b : Bool). WritesBy b e a.encoding es whole) (sym g.fresh) (
      ap (λ (z : Settings). z.encoding) g.settings,
      subst (λ (t : List Item). Ends (text_of e) t whole) (sym same) (ends_new (text_of e) whole g.output g.status),
    )

from_verdict : (e : Emitter) (w : RequestedSettings) (limit : ℕ) (a : At) (es : List Event)
    → GoesFrom e w limit a
    → verdict e es ≡ refusal_behind (settings_in w a.encoding) a.state es
unfolding verdict
from_verdict e w limit a es g =
    ap (λ (b : Bool). verdict_by b e es) g.fresh
    ∙ ap (λ (z : Settings). refusal_behind z e.course.state (e.held ++ es)) g.settings
    ∙ ap (λ (z : State). refusal_behind (settings_in w a.encoding) z (e.held ++ es)) g.state
    ∙ ap (λ (z : List Event). refusal_behind (settings_in w a.encoding) a.state (z ++ es)) g.held

start_writes : (e : Emitter) (w : RequestedSettings) (limit : ℕ) (es : List Event)
    → StartsUnder e w limit → Writes e (first_settings w es).encoding es
    (text_at (first_settings w es) (placed at.StreamStart) start es)
unfolding whole_text
start_writes e w limit es s = first_writes e w limit es s

start_verdict : (e : Emitter) (w : RequestedSettings) (limit : ℕ) (es : List Event)
    → StartsUnder e w limit
    → verdict e es ≡ refusal_behind (first_settings w es) (placed at.StreamStart) es
unfolding refusal_behind
start_verdict e w limit [] s = first_verdict e w limit [] s
start_verdict e w limit (f ∷ es) s = first_verdict e w limit (f ∷ es) s

-- ---- after the events

-- what an emitter that goes on has written, with others to come
gone_bytes : (e : Emitter) (x : Encoding) (es : List Event) (whole : List Item) → e.fresh ≡ false
    → e.status ≡ Going → Writes e x es whole → encode x whole ≡ e.output ++ encode x
    (text_at e.course.settings e.course.state e.course.cursor (e.held ++ es))
unfolding Writes LetsOut Ends
gone_bytes e x es whole off on h =
    let text = text_at e.course.settings e.course.state e.course.cursor (e.held ++ es) in
    let k : WritesBy false e x es whole = subst (λ (b : Bool). WritesBy b e x es whole) off h in
    let m : EndsBy Going e.limit e.course.settings.encoding e.output text whole = subst (λ (z : Status). EndsBy z e.limit e.course.settings.encoding e.output text whole) on k.1 in
    subst (λ (y : Encoding). encode y whole ≡ e.output ++ encode y text) k.0 m.0

gone_coded : (e : Emitter) (x : Encoding) (es : List Event) (whole : List Item) → e.fresh ≡ false
    → Writes e x es whole → e.course.settings.encoding ≡ x
unfolding Writes
gone_coded e x es whole off h =
    let k : WritesBy false e x es whole = subst (λ (b : Bool). WritesBy b e x es whole) off h in
    k.0

gone_verdict : (e : Emitter) (es : List Event) → e.fresh ≡ false
    → verdict e es ≡ refusal_behind e.course.settings e.course.state (e.held ++ es)
unfolding verdict
gone_verdict e es off = ap (λ (b : Bool). verdict_by b e es) off

-- what is known where the events were given, by the settings, the state and the cursor from which they are laid out
record Known (first e : Emitter) (s : Settings) (st : State) (c : Cursor) (es : List Event) : Type 0
  where
    writes : Writes first s.encoding es (text_at s st c es)
    judges : verdict first es ≡ refusal_behind s st es
    leads : LeadsOnward first es e []
    tells : TellsOutcome e

-- the same with others to come
record KnownOnward (first : Emitter) (s : Settings) (st : State) (c : Cursor) (es : List Event) :
    Type 0 where
  writes : (more : List Event) → Writes first s.encoding (es ++ more) (text_at s st c (es ++ more))
  judges : (more : List Event) → verdict first (es ++ more) ≡ refusal_behind s st (es ++ more)

-- the output is their text, as far as it goes
known_text : (first e : Emitter) (s : Settings) (st : State) (c : Cursor) (es : List Event)
    → Known first e s st c es → HasLetOut e.status e.limit e.output
    (encode s.encoding (text_at s st c es)) (is_deep (text_at s st c es))
known_text first e s st c es k =
    let whole = text_at s st c es in
    let P : List Event → Type 0 = λ z. Writes first s.encoding z whole in
    k.tells.output s.encoding whole (k.leads.writes s.encoding [] whole (subst P (sym (append-nil es)) k.writes))

known_refusal : (first e : Emitter) (s : Settings) (st : State) (c : Cursor) (es : List Event)
    → Known first e s st c es → e.status ≡ Going → refusal_behind s st es ≡ verdict e []
known_refusal first e s st c es k on =
    sym k.judges ∙ ap (verdict first) (sym (append-nil es)) ∙ sym (k.leads.refuses on [])

known_coded : (first e : Emitter) (s : Settings) (st : State) (c : Cursor) (es : List Event)
    → Known first e s st c es → e.fresh ≡ false → e.course.settings.encoding ≡ s.encoding
known_coded first e s st c es k off =
    let whole = text_at s st c es in
    let P : List Event → Type 0 = λ z. Writes first s.encoding z whole in
    gone_coded e s.encoding [] whole off (k.leads.writes s.encoding [] whole (subst P (sym (append-nil es)) k.writes))

known_leads : (first e : Emitter) (s : Settings) (st : State) (c : Cursor) (es : List Event)
    → Known first e s st c es → KnownOnward first s st c es → e.fresh ≡ false → e.status ≡ Going
    → e.course.settings ≡ s
    → LeadsIn s.encoding s (record { state = st; cursor = c; held = [] }) es (record {
      state = e.course.state;
      cursor = e.course.cursor;
      held = e.held;
    })
known_leads first e s st c es k o off on same =
    let x = s.encoding in
    let text = has_all e.status e.limit e.output (encode x (text_at s st c es)) (is_deep (text_at s st c es)) on (known_text first e s st c es k) in
    record {
      bytes = λ more.
          gone_bytes e x more (text_at s st c (es ++ more)) off on (k.leads.writes x more (text_at s st c (es ++ more)) (o.writes more))
          ∙ ap (λ (z : Settings). e.output ++ encode x (text_at z e.course.state e.course.cursor (e.held ++ more))) same
          ∙ ap (λ (z : List ℕ). z ++ encode x (text_at s e.course.state e.course.cursor (e.held ++ more))) text.0;
      refusals = λ more.
          sym (o.judges more) ∙ sym (k.leads.refuses on more) ∙ gone_verdict e more off
          ∙ ap (λ (z : Settings). refusal_behind z e.course.state (e.held ++ more)) same;
    }

-- ---- the answer

open_place : (s : Settings) (st : State) (es : List Event) → refusal_behind s st es ≡ None
    → refused_at st.place ≡ None
unfolding refusal_behind
open_place s st es h = (or_else_none (refused_at st.place) _ h).0

told_waiting : {n : ℕ} {a : At} (s : yaml_c_stand) → TellsAt s (Some a) n → s.place.waiting ≡ n
told_waiting s t = ap (λ (z : yaml_c_place). z.waiting) t.place

none_waiting : (s : yaml_c_stand) → TellsAt s None 0 → s.place.waiting ≡ 0
none_waiting s t = ap (λ (z : yaml_c_place). z.waiting) t.place

-- without a fault: what is said of the events, and that they lead to the emitter's checkpoint
record Went (e : Emitter) (limit : ℕ) (s : Settings) (st : State) (c : Cursor) (es : List Event)
    (text : List ℕ) (sd : yaml_c_stand) : Type 0 where
  right : refusal_behind s st es ≡ None
  is : text ≡ encode s.encoding (text_at s st c es)
  short : Fits limit s.encoding (text_at s st c es)
  means : Means sd (Some (at_of e))
  told : TellsAt sd (Some (at_of e)) (length e.held)
  leads : LeadsIn s.encoding s (record { state = st; cursor = c; held = [] }) es (record {
    state = e.course.state;
    cursor = e.course.cursor;
    held = e.held;
  })
  coded : e.course.settings.encoding ≡ s.encoding

known_short : (first e : Emitter) (limit : ℕ) (s : Settings) (st : State) (c : Cursor)
    (es : List Event) → Known first e s st c es → e.limit ≡ limit → e.status ≡ Going
    → (e.output ≡ encode s.encoding (text_at s st c es))
    × Fits limit s.encoding (text_at s st c es)
known_short first e limit s st c es k l on =
    let whole = text_at s st c es in
    let all = has_all e.status e.limit e.output (encode s.encoding whole) (is_deep whole) on (known_text first e s st c es k) in
    (all.0, subst (λ (n : ℕ). Fits n s.encoding whole) l (fits e.limit s.encoding whole e.output all))

went : (first e : Emitter) (w : RequestedSettings) (limit : ℕ) (s : Settings) (st : State)
    (c : Cursor) (es : List Event) (text : List ℕ) (sd : yaml_c_stand)
    → Known first e s st c es → KnownOnward first s st c es → e.fresh ≡ false
    → e.fault ≡ None → text ≡ e.output → TellsStand e sd → e.requested_settings ≡ w
    → e.limit ≡ limit → s ≡ settings_in w s.encoding → Went e limit s st c es text sd
went first e w limit s st c es text sd k o off none is t asked l own =
    let on = none_by e.status e.starved (verdict e []) (sym k.tells.fault ∙ none) in
    let all = known_short first e limit s st c es k l on.0 in
    let coded = known_coded first e s st c es k off in
    let same : e.course.settings ≡ s = t.forced off ∙ ap (λ (z : RequestedSettings). settings_in z e.course.settings.encoding) asked ∙ ap (settings_in w) coded ∙ sym own in
    let right = open_place e.course.settings e.course.state (e.held ++ []) (sym (gone_verdict e [] off) ∙ on.1) in
    let there = t.somewhere off right in
    record {
      right = known_refusal first e s st c es k on.0 ∙ on.1;
      is = is ∙ all.0;
      short = all.1;
      means = there.0;
      told = there.1;
      leads = known_leads first e s st c es k o off on.0 same;
      coded = coded;
    }

-- a fault of the emitter
stops : (first e : Emitter) (limit : ℕ) (s : Settings) (st : State) (c : Cursor) (es : List Event)
    (f : Fault) → Known first e s st c es → e.limit ≡ limit → e.fault ≡ Some f
    → IsMemoryFault emit_layers f ⊎ (((q : Problem) × ((refusal_behind s st es ≡ Some q)
    × ((f ≡ problem_fault q) × Fits limit s.encoding (text_at s st c es))))
    ⊎ Passes limit (encode s.encoding (text_at s st c es)) (is_deep (text_at s st c es)) f)
stops first e limit s st c es f k l is =
    let whole = text_at s st c es in
    let all = subst (λ (n : ℕ). HasLetOut e.status n e.output (encode s.encoding whole) (is_deep whole)) l (known_text first e s st c es k) in
    elim (some_fault e.status e.starved (verdict e []) limit s.encoding whole e.output f (sym k.tells.fault ∙ is) all) [
      | inl g ↦ inr (inl (g.1.0, (known_refusal first e s st c es k g.0 ∙ g.1.1.0, g.1.1.1)))
      | inr p ↦ elim p [
        | inl long ↦ inr (inr long)
        | inr memory ↦ inl memory
      ]
    ]

-- ---- from a checkpoint at which events were given

from_known : (first e : Emitter) (w : RequestedSettings) (limit : ℕ) (a : At) (es : List Event)
    → GoesFrom first w limit a → LeadsOnward first es e [] → TellsOutcome e
    → Known first e (settings_in w a.encoding) a.state a.cursor es
from_known first e w limit a es g l t = record {
  writes = from_writes first w limit a es g;
  judges = from_verdict first w limit a es g;
  leads = l;
  tells = t;
}

from_onward : (first : Emitter) (w : RequestedSettings) (limit : ℕ) (a : At) (es : List Event)
    → GoesFrom first w limit a
    → KnownOnward first (settings_in w a.encoding) a.state a.cursor es
from_onward first w limit a es g = record {
  writes = λ more. from_writes first w limit a (es ++ more) g;
  judges = λ more. from_verdict first w limit a (es ++ more) g;
}

from_goes : (first e : Emitter) (w : RequestedSettings) (limit : ℕ) (a : At) (es : List Event)
    (text : List ℕ) (sd : yaml_c_stand) → GoesFrom first w limit a → TakesAllEvents first es e
    → e.fault ≡ None → text ≡ e.output → TellsOutcome e → TellsStand e sd
    → AddsWholeText w limit (Some a) es text sd
unfolding added_on refusal_on
from_goes first e w limit a es text sd g all none is t told =
    let off = not_true e.fresh (λ f. false≢true (sym g.fresh ∙ (all.leads.begun f).0)) in
    let x = went first e w limit (settings_in w a.encoding) a.state a.cursor es text sd (from_known first e w limit a es g all.leads t) (from_onward first w limit a es g) off none is told (all.leads.requested_settings ∙ g.requested_settings) (all.leads.limit ∙ g.limit) refl in
    record {
      right = x.right;
      is = x.is;
      short = x.short;
      next = Some (at_of e);
      means = x.means;
      held = e.held;
      told = x.told;
      last = subst (λ (z : List Event). AreLast (z ++ es) e.held) g.held (all.last none);
      waiting = (told_waiting sd x.told, all.few (subst (λ (z : List Event). length z ≤ 3) (sym g.held) (omega arith)));
      leads = x.leads;
      same = λ n more. ap (settings_in w) x.coded;
    }

from_stops : (first e : Emitter) (w : RequestedSettings) (limit : ℕ) (a : At) (es : List Event)
    (f : Fault) → GoesFrom first w limit a → TakesAllEvents first es e → e.fault ≡ Some f
    → TellsOutcome e → IsMemoryFault emit_layers f ⊎ StopsOn w limit (Some a) es f
unfolding added_on refusal_on
from_stops first e w limit a es f g all is t =
    elim (stops first e limit (settings_in w a.encoding) a.state a.cursor es f (from_known first e w limit a es g all.leads t) (all.leads.limit ∙ g.limit) is) [
      | inl m ↦ inl m
      | inr p ↦ elim p [
        | inl q ↦ inr (inl (record { problem = q.0; is = q.1.0; told = q.1.1.0; short = q.1.1.1 }))
        | inr long ↦ inr (inr long)
      ]
    ]

-- ---- from the first checkpoint

start_known : (first e : Emitter) (w : RequestedSettings) (limit : ℕ) (es : List Event)
    → StartsUnder first w limit → LeadsOnward first es e [] → TellsOutcome e
    → Known first e (first_settings w es) (placed at.StreamStart) start es
start_known first e w limit es s l t = record {
  writes = start_writes first w limit es s;
  judges = start_verdict first w limit es s;
  leads = l;
  tells = t;
}

start_onward : (first : Emitter) (w : RequestedSettings) (limit : ℕ) (x : Event) (es : List Event)
    → StartsUnder first w limit
    → KnownOnward first (first_settings w (x ∷ es)) (placed at.StreamStart) start (x ∷ es)
start_onward first w limit x es s = record {
  writes = λ more. start_writes first w limit (x ∷ es ++ more) s;
  judges = λ more. start_verdict first w limit (x ∷ es ++ more) s;
}

some_given : (x : Event) (es : List Event) → x ∷ es ≡ [] → ⊥
some_given x es h = cc

-- before any event nothing is written
nothing_added : (x : Encoding) (s : Settings) (a : Stand) → a.state ≡ placed at.StreamStart
    → a.held ≡ [] → encode x (added s a []) ≡ []
unfolding let_out laid encode
nothing_added x s a st h =
    ap (λ (z : State). encode x (text_at s z a.cursor (a.held ++ []))) st
    ∙ ap (λ (z : List Event). encode x (text_at s (placed at.StreamStart) a.cursor (z ++ []))) h

none_leads : (x : Encoding) (s : Settings) (a : Stand) → a.state ≡ placed at.StreamStart
    → a.held ≡ [] → LeadsIn x s a [] a
none_leads x s a st h = record {
  bytes = λ more. ap (λ (z : List ℕ). z ++ encode x (added s a more)) (sym (nothing_added x s a st h));
  refusals = λ more. refl;
}

start_goes : (first e : Emitter) (w : RequestedSettings) (limit : ℕ) (es : List Event)
    (text : List ℕ) (sd : yaml_c_stand) → StartsUnder first w limit → TakesAllEvents first es e
    → e.fault ≡ None → text ≡ e.output → TellsOutcome e → TellsStand e sd
    → AddsWholeText w limit None es text sd
unfolding added_on refusal_on
start_goes first e w limit [] text sd s all none is t told =
    let k = start_known first e w limit [] s all.leads t in
    let on = none_by e.status e.starved (verdict e []) (sym t.fault ∙ none) in
    let x = known_short first e limit (first_settings w []) (placed at.StreamStart) start [] k (all.leads.limit ∙ s.limit) on.0 in
    let fresh : e.fresh ≡ true = ap (λ (z : Emitter). z.fresh) (all.none refl) ∙ s.fresh in
    let there = told.nowhere fresh in
    record {
      right = known_refusal first e (first_settings w []) (placed at.StreamStart) start [] k on.0 ∙ on.1;
      is = is ∙ x.0;
      short = x.1;
      next = None;
      means = there.0;
      held = [];
      told = there.1;
      last = ([], refl);
      waiting = (none_waiting sd there.1, omega arith);
      leads = none_leads _ _ _ refl refl;
      same = λ n more. absurd (n refl);
    }
start_goes first e w limit (f ∷ es) text sd s all none is t told =
    let off = not_true e.fresh (λ g. some_given f es (all.leads.begun g).1) in
    let x = went first e w limit (first_settings w (f ∷ es)) (placed at.StreamStart) start (f ∷ es) text sd (start_known first e w limit (f ∷ es) s all.leads t) (start_onward first w limit f es s) off none is told (all.leads.requested_settings ∙ s.requested_settings) (all.leads.limit ∙ s.limit) refl in
    record {
      right = x.right;
      is = x.is;
      short = x.short;
      next = Some (at_of e);
      means = x.means;
      held = e.held;
      told = x.told;
      last = subst (λ (z : List Event). AreLast (z ++ (f ∷ es)) e.held) s.held (all.last none);
      waiting = (told_waiting sd x.told, all.few (subst (λ (z : List Event). length z ≤ 3) (sym s.held) (omega arith)));
      leads = x.leads;
      same = λ n more. ap (settings_in w) x.coded;
    }

start_stops : (first e : Emitter) (w : RequestedSettings) (limit : ℕ) (es : List Event) (f : Fault)
    → StartsUnder first w limit → TakesAllEvents first es e → e.fault ≡ Some f → TellsOutcome e
    → IsMemoryFault emit_layers f ⊎ StopsOn w limit None es f
unfolding added_on refusal_on
start_stops first e w limit es f s all is t =
    elim (stops first e limit (first_settings w es) (placed at.StreamStart) start es f (start_known first e w limit es s all.leads t) (all.leads.limit ∙ s.limit) is) [
      | inl m ↦ inl m
      | inr p ↦ elim p [
        | inl q ↦ inr (inl (record { problem = q.0; is = q.1.0; told = q.1.1.0; short = q.1.1.1 }))
        | inr long ↦ inr (inr long)
      ]
    ]

-- ---- from any

pub onward_answer : (first e : Emitter) (w : RequestedSettings) (limit : ℕ) (o : Option At)
    (es : List Event) (r : Result Onward yaml_fault_t) → StartsFrom first w limit o
    → TakesAllEvents first es e → GoneOn e r → Answers emit_layers onward_of (IsOnward w limit o es) r
onward_answer first e w limit None es (Ok r) s all h = start_goes first e w limit es r.text.items r.stand s all h.0 h.1 h.2 h.3
onward_answer first e w limit (Some a) es (Ok r) s all h = from_goes first e w limit a es r.text.items r.stand s all h.0 h.1 h.2 h.3
onward_answer first e w limit None es (Err f) s all h = elim h [
  | inl m ↦ inl m
  | inr k ↦ start_stops first e w limit es (fault_of f) s all k.0 k.1
]
onward_answer first e w limit (Some a) es (Err f) s all h = elim h [
  | inl m ↦ inl m
  | inr k ↦ from_stops first e w limit a es (fault_of f) s all k.0 k.1
]
