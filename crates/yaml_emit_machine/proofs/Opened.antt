-- How a dump is taken, event by event, and how far it has opened the stream.
use Rattle.std.proofs.Common.{◌≡◌, ◌≢◌, List, [], Bool, false, ◌∙◌, Option, ◌++◌, refl}
use Rattle.yaml_scan_model.specs.scan_types.Faults.{Fault}
use Rattle.yaml_emit_layout.specs.declared.Status.{Status}
use Rattle.yaml_emit_layout.specs.declared.Status.TheVariants.{Going}
use Rattle.yaml_emit_layout.specs.Text.{Item}
use Rattle.yaml_emit_layout.specs.Content.{Event}
use Rattle.yaml_emit_machine.specs.Emitter.{Emitter, Completes, opening_events}
use Rattle.yaml_emit_machine.specs.Verdict.{Writes, Lays}
use Rattle.yaml_emit_machine.specs.Taking.{TakesEvents}
pub use Rattle.yaml_emit_machine.proofs.Emitting.{none_by}
use Rattle.std.proofs.lemmas.Bool.{false≢true}
use Rattle.yaml_emit_layout.specs.declared.Settings.{Settings}
use Rattle.yaml_emit_layout.specs.Layout.{Layout, stay, nothing_more}
use Rattle.yaml_emit_layout.specs.Sink.{Output, Ends}
use Rattle.yaml_emit_layout.specs.State.{State}
use Rattle.yaml_emit_core.specs.Steps.{Core, Starves, state_of, settings_of}
use Rattle.yaml_emit_core.specs.Finish.{Finishes, FinishesAt}
use Rattle.yaml_emit_machine.specs.declared.emitter.yaml_emitter_t.TheInside.{Inside}
use Rattle.yaml_emit_machine.specs.Held.{held_events}
use Rattle.yaml_emit_machine.specs.Judged.{text_among, LetsOut, LaysAll, let_out}
use Rattle.yaml_emit_machine.specs.Views.{emitter_of}
use Rattle.yaml_emit_machine.proofs.Emitting.{left, finishes_ends}

-- ---- memory was refused for the dump

at_stopped : (s : Status) (v : Settings) (st : State) (o : Output) (es : List Event)
    (whole : List Item) → s ≢ Going → Ends o [] whole → FinishesAt s v st o es whole
at_stopped Going v st o es whole n h = absurd (n refl)
at_stopped s v st o es whole n h = h

pub starved_finishes : (old new : Core) (xs ys : List Event) (whole : List Item) → Starves old new
    → Finishes (settings_of old) (state_of old) old.sink xs whole
    → Finishes (settings_of new) (state_of new) new.sink ys whole
unfolding Finishes
starved_finishes old new xs ys whole s h =
    let e = finishes_ends old.sink.status (settings_of old) (state_of old) old.sink xs whole h in
    at_stopped new.sink.status (settings_of new) (state_of new) new.sink ys whole s.stopped ((s.text e.0).ends nothing_more whole e.1)

pub starved_all : (old new : Core) (xs ys : List Event) (whole : List Item) → Starves old new
    → LaysAll (settings_of old) (state_of old) old.sink xs whole
    → LaysAll (settings_of new) (state_of new) new.sink ys whole
unfolding LaysAll
starved_all old new xs ys whole s h =
    let before : Layout = λ c rest. text_among (settings_of old) (state_of old) xs c nothing_more in
    (s.text before).ends (λ c. text_among (settings_of new) (state_of new) ys c nothing_more) whole h

-- what follows counts for nothing
pub inside_starves : (i : Inside) (core : Core) (fault : Option Fault) (es : List Event)
    → i.fresh ≡ false → Starves i.core core
    → TakesEvents (emitter_of i) es (left i core i.fresh (held_events i.held) fault) []
unfolding Completes Writes Lays LetsOut LaysAll
inside_starves i core fault es fr s =
    rw fr (record {
      completes = λ x more whole h. ((s.text stay).encoding ∙ h.0, starved_finishes i.core core (held_events i.held ++ (es ++ more)) (held_events i.held ++ more) whole s h.1);
      refuses = λ g more. absurd (s.stopped g);
      writes = λ x more whole h. ((s.text stay).encoding ∙ h.0, starved_all i.core core (let_out (held_events i.held ++ (es ++ more))) (let_out (held_events i.held ++ more)) whole s h.1);
      first = λ g more. absurd (s.stopped g);
      lays = λ x more whole h. ((s.text stay).encoding ∙ h.0, starved_all i.core core (held_events i.held ++ (es ++ more)) (held_events i.held ++ more) whole s h.1);
      grows = (s.text stay).grows;
      going = λ g. absurd (s.stopped g);
      requested_settings = refl;
      limit = (s.text stay).limit;
      begun = λ f. absurd (false≢true f);
    })

-- ---- the whole dump

-- as the stream is open or not
pub takes_opening : (b : Bool) (old new : Emitter) (es left : List Event) → old.opened ≡ b
    → TakesEvents old (opening_events b ++ es) new left
    → TakesEvents old (opening_events old.opened ++ es) new left
takes_opening b old new es left is t = rw (← is) at t
