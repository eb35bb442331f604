-- What the engine answers to an input, texts in place of vectors and references.
use Rattle.std.specs.Prelude.{◌≡◌, ◌⊎◌, true, false, ℕ, Bool, List, Option, Result, Ok, Err, Vec}
use Rattle.yaml_parse.specs.declared.yaml_encoding_t.{yaml_encoding_t}
use Rattle.yaml_parse.specs.declared.yaml_encoding_t.TheVariants.{YAML_ANY_ENCODING}
use Rattle.yaml_scan_types.specs.Faults.{Fault}
use Rattle.yaml_emit.specs.Content.{Event}
use Rattle.yaml_emit.specs.Text.{Item, encode, is_deep}
use Rattle.yaml_emit.specs.Streams.{IsStream}
use Rattle.yaml_emit.specs.Emitter.{Passes}
use Rattle.yaml_emit.specs.Within.{Fits}
use Rattle.yaml_emit.specs.emit_layout.declared.Encoding.{Encoding}
use Rattle.yaml_emit.specs.emit_layout.declared.RequestedSettings.{RequestedSettings}
use Rattle.yaml_round_device.specs.declared.yaml_settings_t.{yaml_settings_t}
use Rattle.yaml_round_device.specs.declared.form.yaml_form_t.{yaml_form_t}
use Rattle.yaml_round_device.specs.declared.form.yaml_form_t.TheVariants.{Canonical, Pretty}
use Rattle.yaml_round_reading.specs.Reading.{emitter_events}
use Rattle.yaml_round_engine.specs.Lines.{event_lines}
use Rattle.yaml_round_engine.specs.declared.writing.Form.{Form}
use Rattle.yaml_round_engine.specs.Writing.{requested_under, requested_in, given_in, IsEachLayout, IsPastEach}
use Rattle.yaml_round_content.specs.Input.{events_of}
use Rattle.yaml_parse.specs.Resolve.{Told}
use Rattle.yaml_round_content.specs.Said.{Document}
use Rattle.yaml_round_content.specs.Reading.{PlainReading, HasEvents}
use Rattle.yaml_round_content.specs.Canon.{canonical_layout}
use Rattle.yaml_round_content.specs.Flags.{begins_with_nothing}
unfoldable pub use Rattle.yaml_round_reading.specs.Answers.{IsRight, IsFaulty}
pub use Rattle.yaml_round_reading.specs.Answers.{SameContent, IsCompared, IsSideFaulty, IsSideStarved, IsSame, ReadsBack}

abbrev pub text_and_form : {A : Type 0} → Vec ℕ A × yaml_form_t → List ℕ × yaml_form_t
text_and_form answer = (answer.0.items, answer.1)

abbrev pub text_and_whether : {A : Type 0} → Vec ℕ A × Bool → List ℕ × Bool
text_and_whether answer = (answer.0.items, answer.1)

abbrev pub text_and_maybe_form : {A : Type 0} → Vec ℕ A × Option yaml_form_t → List ℕ
    × Option yaml_form_t
text_and_maybe_form answer = (answer.0.items, answer.1)

abbrev pub bytes_of : {A : Type 0} → Vec ℕ A → List ℕ
bytes_of text = text.items

-- ---- what is said of one input

-- the input is read to its end, and its fault is the answer
abbrev pub IsJudged : yaml_encoding_t → List ℕ → Result (Unit {0}) Fault → Type 0
IsJudged from input (Ok done) = IsRight from input
IsJudged from input (Err fault) = IsFaulty from input fault

-- the input is accepted, and there is a line for each of its events
pub record HasLines (from : yaml_encoding_t) (input lines : List ℕ) : Type 0 where
  pub events : List Told
  pub of_input : HasEvents from input events
  pub are : lines ≡ event_lines events

abbrev pub IsListed : yaml_encoding_t → List ℕ → Result (List ℕ) Fault → Type 0
IsListed from input (Ok lines) = HasLines from input lines
IsListed from input (Err fault) = IsFaulty from input fault

-- ---- layouts

-- These events are those of a stream in which nothing is wrong, and the text is its layout, which passes no limit.
pub record IsLayout (requested_settings : RequestedSettings) (limit : ℕ) (events : List Event)
    (text : List ℕ) : Type 0 where
  pub encoding : Encoding
  pub whole : List Item
  pub stream : IsStream requested_settings encoding events whole
  pub is : text ≡ encode encoding whole
  pub fits : Fits limit encoding whole

-- They are, and its layout passes the limit that the fault names.
pub record IsPast (requested_settings : RequestedSettings) (limit : ℕ) (events : List Event)
    (fault : Fault) : Type 0 where
  pub encoding : Encoding
  pub whole : List Item
  pub stream : IsStream requested_settings encoding events whole
  pub passes : Passes limit (encode encoding whole) (is_deep whole) fault

-- The input is accepted, and the text is the layout of its events, normalized, in canonical form or in pretty form.
pub record IsLaidOut (from : yaml_encoding_t) (input : List ℕ) (settings : yaml_settings_t)
    (canonical : Bool) (text : List ℕ) : Type 0 where
  pub events : List Told
  pub of_input : HasEvents from input events
  pub layout : IsLayout (requested_under settings canonical) settings.limit
      (emitter_events canonical events) text

-- The input is accepted, and that layout passes the limit that the fault names.
pub record IsTooLong (from : yaml_encoding_t) (input : List ℕ) (settings : yaml_settings_t)
    (canonical : Bool) (fault : Fault) : Type 0 where
  pub events : List Told
  pub of_input : HasEvents from input events
  pub past : IsPast (requested_under settings canonical) settings.limit
      (emitter_events canonical events) fault

-- the layout, the input's fault, or a limit
abbrev pub IsWritten : yaml_encoding_t → List ℕ → yaml_settings_t → Bool → Result (List ℕ) Fault
    → Type 0
IsWritten from input settings canonical (Ok text) = IsLaidOut from input settings canonical text
IsWritten from input settings canonical (Err fault) = IsFaulty from input fault
    ⊎ IsTooLong from input settings canonical fault

-- The input is accepted, and the text is each layout of what the form gives of its events.
pub record IsWrittenOut (form : Form) (from : yaml_encoding_t) (settings : yaml_settings_t)
    (input text : List ℕ) : Type 0 where
  pub right : IsRight from input
  pub each : IsEachLayout (requested_in form settings) settings.limit
      (given_in form (events_of from input)) text

-- The input is accepted, and each of them passes the limit that the fault names.
pub record IsWrittenPast (form : Form) (from : yaml_encoding_t) (settings : yaml_settings_t)
    (input : List ℕ) (fault : Fault) : Type 0 where
  pub right : IsRight from input
  pub each : IsPastEach (requested_in form settings) settings.limit
      (given_in form (events_of from input)) fault

-- such a text, the input's fault, or a limit
abbrev pub IsWrittenIn : Form → yaml_encoding_t → yaml_settings_t → List ℕ
    → Result (List ℕ) Fault → Type 0
IsWrittenIn form from settings input (Ok text) = IsWrittenOut form from settings input text
IsWrittenIn form from settings input (Err fault) = IsFaulty from input fault
    ⊎ IsWrittenPast form from settings input fault

-- ---- normal forms

-- the canonical text of a content under the settings of a call
abbrev pub canonical_text : yaml_settings_t → List Document → List ℕ
canonical_text settings c = canonical_layout (requested_under settings true) c

-- The text is the normal form of what the input says: it reads back as exactly that, no other content
-- has it, and it is laid out again as itself.
pub record IsNormalForm (from : yaml_encoding_t) (settings : yaml_settings_t) (input text : List ℕ)
    : Type 0 where
  -- what the input says
  pub content : List Document
  pub of_input : PlainReading from input (Ok content)
  -- the text, read as its byte order mark shows, is accepted and has the same content
  pub of_text : PlainReading YAML_ANY_ENCODING text (Ok content)
  -- it is that content's canonical text
  pub is : text ≡ canonical_text settings content
  -- what any input says whose canonical text it is, is that content
  pub only : (other : yaml_encoding_t) (source : List ℕ) (c : List Document)
      → PlainReading other source (Ok c) → canonical_text settings c ≡ text → c ≡ content
  -- rewritten under the same settings it is the same text
  pub again : IsLaidOut YAML_ANY_ENCODING text settings true text

-- ---- rewriting

-- The input begins with nothing: its first document has no `---`, and nothing is written for its root.
pub record BeginsWithNothing (from : yaml_encoding_t) (input : List ℕ) : Type 0 where
  pub events : List Told
  pub of_input : HasEvents from input events
  pub begins : begins_with_nothing (emitter_events false events) ≡ true

-- the answer of the engine in pretty form, and whether the input begins with nothing; else it reads back
abbrev pub IsInPrettyForm : yaml_encoding_t → yaml_settings_t → List ℕ
    → Result (List ℕ × Bool) Fault → Type 0
IsInPrettyForm from settings input (Ok (text, true)) = IsLaidOut from input settings false text
    × BeginsWithNothing from input
IsInPrettyForm from settings input (Ok (text, false)) = IsLaidOut from input settings false text
    × ReadsBack from input text
IsInPrettyForm from settings input (Err fault) = IsWritten from input settings false (Err fault)

-- the answer of the engine in canonical form
abbrev pub IsInCanonicalForm : yaml_encoding_t → yaml_settings_t → List ℕ
    → Result (List ℕ × yaml_form_t) Fault → Type 0
IsInCanonicalForm from settings input (Ok (text, Canonical)) = IsLaidOut from input settings true
    text × IsNormalForm from settings input text
IsInCanonicalForm from settings input (Ok (text, Pretty)) = ⊥
IsInCanonicalForm from settings input (Err fault) = IsFaulty from input fault
    ⊎ IsTooLong from input settings true fault

-- its pretty layout passes no limit
abbrev pub FitsInPretty : yaml_encoding_t → yaml_settings_t → List ℕ → Type 0
FitsInPretty from settings input = (pretty : List ℕ) × IsLaidOut from input settings false pretty

-- Canonical form is due: it is asked for; or the input begins with nothing, and no limit is passed before.
abbrev pub IsCanonicalDue : Bool → yaml_encoding_t → yaml_settings_t → List ℕ → Type 0
IsCanonicalDue true from settings input = Unit {0}
IsCanonicalDue false from settings input = BeginsWithNothing from input
    × FitsInPretty from settings input

-- The engine may answer this to the input under the settings: the form that is due, where canonical form is a normal form and
-- pretty form reads back; the input's fault; or the limit that a form that is due passes.
unfoldable pub IsReformatted : yaml_encoding_t → yaml_settings_t → List ℕ
    → Result (List ℕ × yaml_form_t) Fault → Type 0
IsReformatted from settings input (Ok (text, Canonical)) = IsCanonicalDue settings.canonical from
    settings input × (IsLaidOut from input settings true text
    × IsNormalForm from settings input text)
IsReformatted from settings input (Ok (text, Pretty)) = (settings.canonical ≡ false)
    × (IsLaidOut from input settings false text × ReadsBack from input text)
IsReformatted from settings input (Err fault) =
    IsFaulty from input fault
    ⊎ (((settings.canonical ≡ false) × IsTooLong from input settings false fault)
    ⊎ (IsCanonicalDue settings.canonical from settings input
    × IsTooLong from input settings true fault))
