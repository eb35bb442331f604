use Rattle.std.proofs.Common.{◌≡◌, [], ◌∷◌, ◌++◌, length, true}
use Rattle.yaml_parse_model.specs.Events.{borrowed_body}
use Rattle.yaml_emit_layout.specs.Content.{emitter_event}
use Rattle.yaml_emit_core.specs.Steps.{goes_on}
use Rattle.yaml_emit_machine.specs.Held.{held_events, HeldUtf8}
use Rattle.yaml_emit_machine.specs.Laying.{LaysOn}
use Rattle.yaml_emit_machine.proofs.release.release_all.Given as goal

abbrev pub invariant-loop-held : goal.invariant-loop-held
invariant-loop-held l = record {
  lays : LaysOn l.initial.core
      (held_events l.initial.held ++ emitter_event (borrowed_body l.event) ∷ []) l.core
      (held_events l.held ++ emitter_event (borrowed_body l.event) ∷ []);
  utf8 : HeldUtf8 l.held;
  going : goes_on l.core.sink.status l.core.place ≡ true;
  settings : l.core.settings ≡ l.initial.core.settings;
}

abbrev pub decreases-loop-held : goal.decreases-loop-held
decreases-loop-held l = length (held_events l.held)
