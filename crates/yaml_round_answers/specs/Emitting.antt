-- What C receives of events that are emitted.
use Rattle.std.specs.Prelude.{ℕ, List, Option}
use Rattle.yaml_parse.specs.Events.{EventBody}
use Rattle.yaml_parse.specs.scan_types.Faults.{emit_layers}
use Rattle.yaml_emit.specs.emit_layout.declared.RequestedSettings.{RequestedSettings}
use Rattle.yaml_round_answers.specs.declared.answer.yaml_c_answer.{yaml_c_answer}
use Rattle.yaml_round_answers.specs.declared.record.yaml_c_directive.{yaml_c_directive}
use Rattle.yaml_round_answers.specs.declared.record.yaml_c_event.{yaml_c_event}
use Rattle.yaml_round_answers.specs.declared.record.yaml_c_settings.{yaml_c_settings}
use Rattle.yaml_round_answers.specs.Meaning.{events_meant, asked_meant}
use Rattle.yaml_round_answers.specs.Told.{both, IsAnswered, OrMemory, TellsResult}
use Rattle.yaml_round_answers.specs.Written.{emitter_events, IsEmitted}

-- the events, the settings and the limit of a call
abbrev pub emit_meant : List ℕ → List yaml_c_directive → List yaml_c_event → yaml_c_settings
    → Option (List EventBody × (RequestedSettings × ℕ))
emit_meant bytes list records given = both (events_meant bytes list records) (asked_meant given)

-- what an emitter under these settings makes of the events
abbrev pub Emits : List EventBody × (RequestedSettings × ℕ) → yaml_c_answer → Type 0
Emits m = IsAnswered (OrMemory emit_layers (IsEmitted m.1.0 m.1.1 (emitter_events m.0))) TellsResult
