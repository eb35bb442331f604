-- What C receives of events that are emitted piece by piece.
use Rattle.std.specs.Prelude.{◌≡◌, pos, ℕ, List, Option, Result, Ok, Err}
use Rattle.yaml_parse.specs.Events.{EventBody}
use Rattle.yaml_parse.specs.scan_types.Faults.{Fault, emit_layers}
use Rattle.yaml_emit.specs.emit_layout.declared.RequestedSettings.{RequestedSettings}
use Rattle.yaml_round_answers.specs.declared.answer.yaml_c_answer.{yaml_c_answer}
use Rattle.yaml_round_answers.specs.declared.parsing.yaml_c_parsed.{yaml_c_parsed}
use Rattle.yaml_round_answers.specs.declared.record.yaml_c_settings.{yaml_c_settings}
use Rattle.yaml_round_answers.specs.declared.standing.yaml_c_stand.{yaml_c_stand}
use Rattle.yaml_round_answers.specs.Written.{emitter_events}
use Rattle.yaml_round_answers.specs.Standing.{At, stand_meant}
use Rattle.yaml_round_answers.specs.Onward.{most_on, IsOnward}
use Rattle.yaml_round_answers.specs.Emitting.{emit_meant}
use Rattle.yaml_round_answers.specs.Told.{both, IsAnswered, OrMemory, TellsText, TellsFault}

-- the checkpoint that records mean
abbrev pub at_meant_by : yaml_c_stand → Option (Option At)
at_meant_by s = stand_meant s.place s.levels.now s.directives.now s.bytes.now

-- the events, the settings and the limit of a call, and the checkpoint from which it continues
abbrev pub onward_meant : yaml_c_parsed → yaml_c_settings → yaml_c_stand
    → Option ((List EventBody × (RequestedSettings × ℕ)) × Option At)
onward_meant given settings stand = both
    (emit_meant given.bytes.now given.directives.now given.events.now settings) (at_meant_by stand)

-- The text, and the checkpoint after it; with a fault that checkpoint is left as it was.
abbrev pub TellsOnward : yaml_c_stand → yaml_c_stand → Result (List ℕ × yaml_c_stand) Fault
    → yaml_c_answer → Type 0
TellsOnward old new (Ok o) a = TellsText o.0 (pos 0) a × (new ≡ o.1)
TellsOnward old new (Err fault) a = TellsFault fault (pos 0) a × (new ≡ old)

-- what an emitter under these settings makes of the events that goes on from there
abbrev pub EmitsOn : yaml_c_stand → yaml_c_stand
    → (List EventBody × (RequestedSettings × ℕ)) × Option At → yaml_c_answer → Type 0
EmitsOn old new m = IsAnswered (OrMemory emit_layers
    (IsOnward m.0.1.0 (most_on m.0.1.1) m.1 (emitter_events m.0.0))) (TellsOnward old new)
