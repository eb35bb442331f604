-- What a parser gives is what an emitter takes.
use Rattle.std.specs.Prelude.{◌≡◌, ℕ, Bool, List, map, Option, None}
use Rattle.yaml_parse_model.specs.declared.yaml_encoding_t.{yaml_encoding_t}
use Rattle.yaml_emit_laws.specs.scan_types.Tokens.{Token}
use Rattle.yaml_emit_laws.specs.scan_types.Faults.{Fault}
use Rattle.yaml_scan_laws.specs.scan_history.Scanned.{scanned}
use Rattle.yaml_scan_laws.specs.Spelled.{AreSpelled}
use Rattle.yaml_parse_model.specs.Events.{EventBody}
use Rattle.yaml_emit_laws.specs.parse_grammar.Machine.{run, initial}
use Rattle.yaml_emit_laws.specs.parse_grammar.Resolve.{Told, Reading, no_directives}
use Rattle.yaml_emit_laws.specs.parse_grammar.Remaining.{reading_of}
use Rattle.yaml_emit_laws.specs.emit_layout.declared.Expected.TheVariants as at
use Rattle.yaml_emit_laws.specs.emit_layout.Content.{Event, emitter_event}
use Rattle.yaml_emit_laws.specs.emit_layout.Progress.{first_progress, first_refusal}
use Rattle.yaml_emit_laws.specs.StreamsLaws.{progress_behind, IsEmittable, RightFront, AreRightTold}
use Rattle.yaml_round_content.specs.Adapted.{adapted}
use Rattle.yaml_round_content.specs.Normalized.{IsNormalizing}

-- the events, each changed so, as an emitter sees them
abbrev pub emitter_events_by : (EventBody → EventBody) → List Told → List Event
emitter_events_by normalize es = map (λ (t : Told). emitter_event (normalize t.0.body)) es

-- what a parser makes of a list of tokens
abbrev pub parsed : List Token → Option Fault → Reading
parsed ts f = reading_of (run ts initial f) no_directives

-- ---- of tokens

-- No event is refused, and where no fault ends them, the stream has ended.
pub record IsRightReading (canonical : Bool) (es : List Event) (ending : Option Fault) : Type 0
  where
    pub passes : first_refusal canonical first_progress es ≡ None
    pub ends : ending ≡ None → (progress_behind first_progress es).place ≡ at.End

-- The events of well spelled tokens, normalized or not, are right, also those before a fault.
abbrev pub ParsedIsRight : Type 0
ParsedIsRight = (normalize : EventBody → EventBody) → IsNormalizing normalize → (ts : List Token)
    → AreSpelled ts → (f : Option Fault) (canonical : Bool)
    → IsRightReading canonical (emitter_events_by normalize (parsed ts f).events)
    (parsed ts f).ending

-- ---- of an input

-- what a parser makes of the tokens of an input, up to the first tag that isn't UTF-8
abbrev pub parsed_input : yaml_encoding_t → List ℕ → Reading
parsed_input from input = parsed (adapted (scanned from input)).tokens
    (adapted (scanned from input)).fault

-- The events of an input that no fault ends are those of a stream in which nothing is wrong.
abbrev pub InputsAreStreams : Type 0
InputsAreStreams = (normalize : EventBody → EventBody) → IsNormalizing normalize
    → (from : yaml_encoding_t) (input : List ℕ) (canonical : Bool)
    → (parsed_input from input).ending ≡ None
    → IsEmittable canonical (emitter_events_by normalize (parsed_input from input).events)

-- Those of any input are a front of such a stream's.
abbrev pub InputsAreFronts : Type 0
InputsAreFronts = (normalize : EventBody → EventBody) → IsNormalizing normalize
    → (from : yaml_encoding_t) (input : List ℕ) (canonical : Bool)
    → RightFront canonical (emitter_events_by normalize (parsed_input from input).events)

-- None of them has an empty tag, or opens a document with a version or directives that may not be written.
abbrev pub InputsLoadRight : Type 0
InputsLoadRight = (from : yaml_encoding_t) (input : List ℕ)
    → AreRightTold (parsed_input from input).events
