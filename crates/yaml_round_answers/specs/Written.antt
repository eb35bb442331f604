-- What an emitter writes for a list of events.
use Rattle.std.specs.Prelude.{◌≡◌, ◌⊎◌, ℕ, List, map, Option, None, Some, Result, Ok, Err}
use Rattle.yaml_parse.specs.scan_types.Faults.{Fault}
use Rattle.yaml_parse.specs.Events.{EventBody}
use Rattle.yaml_emit.specs.Content.{Event, emitter_event}
use Rattle.yaml_emit.specs.Text.{Item, encode, is_deep}
use Rattle.yaml_emit.specs.Layout.{written}
use Rattle.yaml_emit.specs.Progress.{first_progress, first_refusal}
use Rattle.yaml_emit.specs.Judged.{laid, let_out}
use Rattle.yaml_emit.specs.Verdict.{first_settings}
use Rattle.yaml_emit.specs.Within.{Fits}
use Rattle.yaml_emit.specs.Streams.{IsStream}
use Rattle.yaml_emit.specs.Emitter.{Passes, problem_fault}
use Rattle.yaml_emit.specs.emit_layout.State.{placed}
use Rattle.yaml_emit.specs.emit_layout.declared.Expected.TheVariants as at
use Rattle.yaml_emit.specs.emit_layout.declared.Problem.{Problem}
use Rattle.yaml_emit.specs.emit_layout.declared.Encoding.{Encoding}
use Rattle.yaml_emit.specs.emit_layout.declared.RequestedSettings.{RequestedSettings}

-- the events of records as an emitter sees them
abbrev pub emitter_events : List EventBody → List Event
emitter_events bs = map emitter_event bs

-- the first refusal among the events that are let out: all but those that the emitter still holds, as it waits for more
abbrev pub refusal : RequestedSettings → List Event → Option Problem
refusal w es = first_refusal w.canonical first_progress (let_out es)

-- what is written for these, up to the first one that is refused
unfoldable pub whole_text : RequestedSettings → List Event → List Item
whole_text w es = written (laid (first_settings w es) (placed at.StreamStart) (let_out es))

abbrev pub text_encoding : RequestedSettings → List Event → Encoding
text_encoding w es = (first_settings w es).encoding

abbrev pub text_bytes : RequestedSettings → List Event → List ℕ
text_bytes w es = encode (text_encoding w es) (whole_text w es)

-- that text passes no limit
abbrev pub IsShort : RequestedSettings → ℕ → List Event → Type 0
IsShort w limit es = Fits limit (text_encoding w es) (whole_text w es)

-- It passes the limit that the fault names: bytes, or columns of indentation.
abbrev pub IsLong : RequestedSettings → ℕ → List Event → Fault → Type 0
IsLong w limit es fault = Passes limit (text_bytes w es) (is_deep (whole_text w es)) fault

-- No event is refused, and all that is written for them is the text, which passes no limit.
pub record IsEmittedText (w : RequestedSettings) (limit : ℕ) (es : List Event)
    (text : List ℕ) : Type 0 where
  pub right : refusal w es ≡ None
  pub is : text ≡ text_bytes w es
  pub short : IsShort w limit es
  -- of a stream in which nothing is wrong it is the layout
  pub stream : (x : Encoding) (whole : List Item) → IsStream w x es whole → text ≡ encode x whole

-- An event is refused with that fault, and what is written before it passes no limit.
pub record IsEventRefused (w : RequestedSettings) (limit : ℕ) (es : List Event)
    (fault : Fault) : Type 0 where
  pub problem : Problem
  pub is : refusal w es ≡ Some problem
  pub told : fault ≡ problem_fault problem
  pub short : IsShort w limit es

-- It is refused: an event is, or the text before such a one passes a limit.
pub record IsFault (w : RequestedSettings) (limit : ℕ) (es : List Event) (fault : Fault) : Type 0
  where
    pub is : IsEventRefused w limit es fault ⊎ IsLong w limit es fault
    -- of a stream in which nothing is wrong the layout passes that limit
    pub stream : (x : Encoding) (whole : List Item) → IsStream w x es whole
        → Passes limit (encode x whole) (is_deep whole) fault

-- An emitter may answer this: the text of the events that are let out; the fault of the first one that is refused, where what
-- is written before it passes no limit; or the limit that this passes.
unfoldable pub IsEmitted : RequestedSettings → ℕ → List Event → Result (List ℕ) Fault → Type 0
IsEmitted w limit es (Ok text) = IsEmittedText w limit es text
IsEmitted w limit es (Err fault) = IsFault w limit es fault
