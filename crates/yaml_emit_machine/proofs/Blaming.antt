-- What an event that was given does: the state after it is as it has to be, and where memory was refused outside the output it is
-- known which events are in it.
use Rattle.std.proofs.Common.{◌≡◌, ◌≢◌, ◌⊎◌, inl, inr, ℕ, suc, drop, List, [], ◌∷◌, ◌++◌, Bool, false, Option, append_assoc, refl, sym, subst, ap, ◌∙◌, None, option_map}
use Rattle.yaml_scan_model.specs.scan_types.Faults.{Fault, fault_of}
use Rattle.yaml_emit_layout.specs.Content.{Event}
use Rattle.yaml_emit_layout.specs.declared.Settings.{Settings}
use Rattle.yaml_emit_core.specs.Steps.{Core, state_of, settings_of, goes_on}
use Rattle.yaml_emit_machine.specs.Held.{held_events, is_ready, IsWaiting}
use Rattle.yaml_emit_machine.specs.declared.held.Held.{Held}
use Rattle.yaml_emit_machine.specs.Judged.{WaitsFirst, RefusesHeld, first_wrong}
use Rattle.yaml_emit_machine.specs.Laying.{HasLaid, LaysOn, HoldsOrLays, LaysSoon}
use Rattle.yaml_emit_machine.specs.declared.emitter.yaml_emitter_t.TheInside.{Inside}
use Rattle.yaml_emit_machine.specs.Emitter.{Emitter, refusal_by, settings_in, Completes}
use Rattle.yaml_emit_machine.specs.Views.{emitter_of, IsEmitter}
use Rattle.yaml_emit_machine.specs.Verdict.{LaysFirst, wrong, Lays}
use Rattle.yaml_emit_machine.specs.Taking.{HasFirst, BlamesLevels, TakesOne, TakesSoon}
use Rattle.yaml_emit_machine.proofs.Emitting.{left, inside_going, unnoted}
pub use Rattle.yaml_emit_machine.proofs.Taking.{ends_new}
use Rattle.std.proofs.lemmas.Bool.{cases_Bool, false≢true}
use Rattle.yaml_scan_model.specs.declared.fault.yaml_fault_t.{yaml_fault_t}
use Rattle.yaml_emit_machine.proofs.Holding.{three_most, none_ready, asked_waits}
use Rattle.yaml_emit_machine.proofs.Following.{lays_unnoted}
use Rattle.yaml_emit_machine.proofs.Taking.{inside_takes}

-- ---- what is known of the first few is known in other words

stands_as : (n : ℕ) (A : Type 0) (P Q : ℕ → Type 0) → ((k : ℕ) → P k → Q k)
    → (P (suc n) ⊎ (A × P n)) → (Q (suc n) ⊎ (A × Q n))
stands_as n A P Q f (inl p) = inl (f (suc n) p)
stands_as n A P Q f (inr p) = inr (p.0, f n p.1)

pub refuses_as : (es : List Event) (P Q : ℕ → Type 0) → ((k : ℕ) → P k → Q k) → RefusesHeld es P
    → RefusesHeld es Q
refuses_as es P Q f r = record {
  front = r.front;
  takes = r.takes;
  stands = stands_as r.front (WaitsFirst (drop r.front es)) P Q f r.stands;
}

-- ---- an event was given

has_first : (i : Inside) (e : Event) (output : List ℕ) (n : ℕ) → i.fresh ≡ false
    → HasLaid i.core (held_events i.held ++ e ∷ []) output n
    → HasFirst (emitter_of i) (e ∷ []) output n
unfolding LaysFirst
has_first i e output n fr laid =
    rw fr (λ x more whole f. rw (← f.0) (laid more whole (rw append_assoc f.1)))

pub inside_blames : (i : Inside) (core : Core) (held : Held) (fault : Option Fault)
    (e : Event) → i.fresh ≡ false
    → LaysOn i.core (held_events i.held ++ e ∷ []) core (held_events held)
    → BlamesLevels e (emitter_of i) (left i core i.fresh (held_events held) fault)
inside_blames i core held fault e fr l = λ off on.
    refuses_as (held_events i.held ++ e ∷ []) (HasLaid i.core (held_events i.held ++ e ∷ []) core.sink.bytes) (HasFirst (emitter_of i) (e ∷ []) core.sink.bytes) (λ n laid. has_first i e core.sink.bytes n fr laid) (l.blames off on)

-- ---- that the stream was opened or closed is noted

-- Marking the stream open or closed changes nothing of what is blamed.
pub blames_marked : (e : Event) (old mid new : Emitter) (o k : Bool)
    → new ≡ record mid { opened = o; closed = k } → BlamesLevels e old mid
    → BlamesLevels e old new
blames_marked e old mid new o k same m = rw same m

-- ---- after an event the state is as it has to be

still_forced : (i : Inside) (core : Core) → IsEmitter i → i.fresh ≡ false
    → core.settings ≡ i.core.settings
    → settings_of core ≡ settings_in i.requested_settings core.sink.encoding
still_forced i core inv fr same =
    let in_encoding : Settings → Settings = λ z. record z { encoding = core.sink.encoding } in
    ap in_encoding same ∙ ap in_encoding (inv.forced fr)

-- After what was laid out an emitter is as it has to be.
pub inside_held : (i : Inside) (core : Core) (held : Held)
    (fault : Option yaml_fault_t) (e : Event) → IsEmitter i → i.fresh ≡ false
    → option_map fault_of fault ≡ refusal_by core.place core.sink.status core.starved
    → HoldsOrLays i.core i.held e core held
    → IsEmitter (record i { core = core; held = held; fault = fault })
inside_held i core held fault e inv fr faulty h = record {
  faulty = faulty;
  few = h.waits;
  texts = h.utf8;
  begun = λ f. absurd (false≢true (sym fr ∙ f));
  limited = h.lays.on.limit ∙ inv.limited;
  running = inv.running;
  forced = λ _. still_forced i core inv fr h.settings;
  memory = lays_unnoted i.core core _ _ h.lays.on inv.memory;
}

-- It has taken the event.
pub inside_took : (i : Inside) (core : Core) (held : Held) (fault : Option Fault)
    (e : Event) → IsEmitter i → i.fresh ≡ false → option_map fault_of i.fault ≡ None
    → HoldsOrLays i.core i.held e core held
    → TakesOne (emitter_of i) e (left i core i.fresh (held_events held) fault)
inside_took i core held fault e inv fr none h = record {
  takes = inside_takes i core held fault e fr (inside_going i inv none) h.lays;
  memory = h.lays.on.memory;
  blames = inside_blames i core held fault e fr h.lays.on;
  few = three_most held;
  opened = (refl, refl);
  begun = fr;
  last = h.last;
}

-- ---- an event was laid out as it came

waiting_waits : (canonical : Bool) (e : Event) (held : List Event) → IsWaiting canonical e held
    → is_ready held ≡ false
waiting_waits canonical e held h = elim h [ inl n ↦ none_ready held n | inr k ↦ ap is_ready k.0 ∙ asked_waits canonical e k.1 ]

pub inside_waits : (i : Inside) (core : Core) (held : Held)
    (fault : Option yaml_fault_t) (e : Event) → IsEmitter i → i.fresh ≡ false
    → option_map fault_of fault ≡ refusal_by core.place core.sink.status core.starved
    → LaysSoon i.core i.held e core held
    → IsEmitter (record i { core = core; held = held; fault = fault })
inside_waits i core held fault e inv fr faulty h = record {
  faulty = faulty;
  few = λ _. waiting_waits i.core.settings.canonical e (held_events held) h.waits;
  texts = h.utf8;
  begun = λ f. absurd (false≢true (sym fr ∙ f));
  limited = h.lays.limit ∙ inv.limited;
  running = inv.running;
  forced = λ _. still_forced i core inv fr h.settings;
  memory = lays_unnoted i.core core _ _ h.lays inv.memory;
}

soon_waits : (i : Inside) (e : Event) (held : List Event) → IsEmitter i → i.fresh ≡ false
    → IsWaiting i.core.settings.canonical e held
    → IsWaiting i.requested_settings.canonical e held
soon_waits i e held inv fr w =
    subst (λ (b : Bool). IsWaiting b e held) (ap (λ (z : Settings). z.canonical) (inv.forced fr)) w

-- where a fault is noted, the output doesn't go on
stops : (core : Core) (fault : Option Fault)
    → fault ≡ refusal_by core.place core.sink.status core.starved → fault ≢ None
    → goes_on core.sink.status core.place ≡ false
stops core fault is some = elim (cases_Bool (goes_on core.sink.status core.place)) [
  | inl on ↦ absurd (some (is ∙ sym (unnoted core None refl on)))
  | inr off ↦ off
]

-- It has taken the event.
pub inside_soon : (i : Inside) (core : Core) (held : Held) (fault : Option Fault)
    (e : Event) → IsEmitter i → i.fresh ≡ false → option_map fault_of i.fault ≡ None
    → fault ≡ refusal_by core.place core.sink.status core.starved
    → LaysSoon i.core i.held e core held
    → TakesSoon (emitter_of i) e (left i core i.fresh (held_events held) fault)
unfolding Completes wrong Lays
inside_soon i core held fault e inv fr none is h =
    let l = h.lays in
    let b = inside_blames i core held fault e fr l in
    let waits = soon_waits i e (held_events held) inv fr h.waits in
    let blames = rw fr at b in
    rw fr (record {
      completes = λ x es whole c. (l.encoding ∙ c.0, l.finishes es whole (rw append_assoc c.1));
      first = λ g es. l.first g es ∙ ap (first_wrong (settings_of i.core) (state_of i.core)) (append_assoc (held_events i.held) (e ∷ []) es);
      lays = λ x es whole c. (l.encoding ∙ c.0, l.lays es whole (rw append_assoc c.1));
      grows = l.grows;
      going = l.going;
      requested_settings = refl;
      limit = l.limit;
      memory = l.memory;
      blames = blames;
      opened = (refl, refl);
      begun = refl;
      waits = λ _. waits;
      stopped = λ _ some. h.stopped (stops core fault is some);
    })
