-- What is written of a reading's events.
use Rattle.std.specs.Prelude.{◌≡◌, ℕ, Bool, true, false, List, [], ◌∷◌, None, Result, Ok, Err, Vec}
use Rattle.std.specs.Global.{Global}
use Rattle.yaml_parse.specs.declared.yaml_encoding_t.{yaml_encoding_t}
use Rattle.yaml_parse.specs.declared.yaml_encoding_t.TheVariants.{YAML_UTF8_ENCODING, YAML_UTF16LE_ENCODING, YAML_UTF16BE_ENCODING}
use Rattle.yaml_parse.specs.declared.yaml_fault_t.{yaml_fault_t}
use Rattle.yaml_scan_types.specs.Faults.{Fault, fault_of}
use Rattle.yaml_parse.specs.Remaining.{ParserRemaining}
use Rattle.yaml_parse.specs.Resolve.{Told}
use Rattle.yaml_parse.specs.Events.{Event as ParsedEvent}
use Rattle.yaml_emit.specs.Content.{Event}
use Rattle.yaml_emit.specs.Streams.{IsStream}
use Rattle.yaml_emit.specs.Emitter.{Emitter, Completes, IsLimited, Passes}
use Rattle.yaml_emit.specs.Within.{Fits}
use Rattle.yaml_emit.specs.Text.{Item, encode, is_deep}
use Rattle.yaml_emit.specs.emit_layout.declared.Encoding.{Encoding}
use Rattle.yaml_emit.specs.emit_layout.declared.RequestedSettings.{RequestedSettings}
use Rattle.yaml_round_device.specs.declared.yaml_settings_t.{yaml_settings_t}
use Rattle.yaml_round_engine.specs.declared.writing.Form.{Form}
use Rattle.yaml_round_engine.specs.declared.writing.Form.TheVariants as form
use Rattle.yaml_round_device.specs.declared.form.yaml_output_encoding_t.{yaml_output_encoding_t}
use Rattle.yaml_round_device.specs.declared.form.yaml_output_encoding_t.TheVariants.{Utf8, Utf16Le, Utf16Be}
use Rattle.yaml_round_content.specs.Restyled.{readable_events}
use Rattle.yaml_round_engine.specs.Beginning.{nothing_comes}
use Rattle.yaml_round_engine.specs.Styles.{position_of}
use Rattle.yaml_round_reading.specs.Reading.{contents, emitter_events, IsFaultOf}

-- ---- the settings of an emitter

abbrev pub encoding_under : yaml_output_encoding_t → yaml_encoding_t
encoding_under Utf8 = YAML_UTF8_ENCODING
encoding_under Utf16Le = YAML_UTF16LE_ENCODING
encoding_under Utf16Be = YAML_UTF16BE_ENCODING

-- in canonical form or in pretty form
abbrev pub requested_under : yaml_settings_t → Bool → RequestedSettings
requested_under s canonical = record {
  encoding = encoding_under s.encoding;
  canonical = canonical;
  indent = s.indent;
  width = s.width;
  unicode = s.unicode;
  line_break = s.line_break;
}

abbrev pub is_canonical : Form → Bool
is_canonical form.Canonical = true
is_canonical (form.Pretty beginning) = false
is_canonical (form.Readable at) = false

abbrev pub is_pretty : Form → Bool
is_pretty form.Canonical = false
is_pretty (form.Pretty beginning) = true
is_pretty (form.Readable at) = false

-- in the form
abbrev pub requested_in : Form → yaml_settings_t → RequestedSettings
requested_in w s = requested_under s (is_canonical w)

-- an emitter under these settings that was given nothing
pub record IsUnder (e : Emitter) (w : RequestedSettings) (most : ℕ) : Type 0 where
  pub requested_settings : e.requested_settings ≡ w
  pub limit : e.limit ≡ most
  pub fresh : e.fresh ≡ true
  pub opened : e.opened ≡ false
  pub closed : e.closed ≡ false
  pub fault : e.fault ≡ None

-- ---- events that are given

-- what the form gives of the events to come
abbrev pub given_in : Form → List Told → List Event
given_in form.Canonical es = emitter_events true es
given_in (form.Pretty beginning) es = emitter_events false es
given_in (form.Readable at) es = readable_events (position_of at) (contents es)

-- with these to come in pretty form the input begins with nothing
abbrev pub comes_to_nothing : Form → List Told → Bool
comes_to_nothing form.Canonical es = false
comes_to_nothing (form.Pretty beginning) es = nothing_comes beginning (emitter_events false es)
comes_to_nothing (form.Readable at) es = false

-- An event was given in the form. Whatever follows, the text is the same, and so is whether the input begins with nothing.
pub record Gives (form_old : Form) (old : Emitter) (e : ParsedEvent) (form_new : Form)
    (new : Emitter) : Type 0 where
  pub completes : (unasked : ℕ) (es : List Told) (x : Encoding) (whole : List Item)
      → Completes old x (given_in form_old ((e, unasked) ∷ es)) whole
      → Completes new x (given_in form_new es) whole
  pub limit : new.limit ≡ old.limit
  pub beginning : (unasked : ℕ) (es : List Told)
      → comes_to_nothing form_old ((e, unasked) ∷ es) ≡ comes_to_nothing form_new es

-- With these events to come, in that form, from one emitter and those from the other, the text is the same,
-- and so is whether the input begins with nothing.
pub record LeadsOn (form_old : Form) (old : Emitter) (before : List Told) (form_new : Form)
    (new : Emitter) (after : List Told) : Type 0 where
  pub completes : (x : Encoding) (whole : List Item)
      → Completes old x (given_in form_old before) whole
      → Completes new x (given_in form_new after) whole
  pub limit : new.limit ≡ old.limit
  pub beginning : comes_to_nothing form_old before ≡ comes_to_nothing form_new after

-- all of the reading's events were given to the emitter
abbrev pub WritesAll : Form → ParserRemaining → Emitter → Result (Unit {0}) yaml_fault_t → Form
    → Emitter → Type 0
WritesAll w r e (Ok done) w' e' = (r.ending ≡ None) × LeadsOn w e r.events w' e' []
WritesAll w r e (Err f) w' e' = IsFaultOf r.ending (fault_of f)

-- the text is that layout, and passes no limit
pub record IsText (limit : ℕ) (x : Encoding) (whole : List Item) (text : List ℕ) : Type 0 where
  pub is : text ≡ encode x whole
  pub fits : Fits limit x whole

-- the emitter's text, where it is whole, or its fault: a limit that each text that the emitter completes passes, or out of memory
abbrev pub FinishesText : Emitter → Result (Vec ℕ Global) yaml_fault_t → Type 0
FinishesText e (Ok text) = (e.fault ≡ None)
    × ((x : Encoding) (whole : List Item) → Completes e x [] whole
    → IsText e.limit x whole text.items)
FinishesText e (Err f) = IsLimited e (fault_of f)

-- ---- texts of events

-- The text is each layout of these events, where they are a stream's in which nothing is wrong, and passes no limit.
abbrev pub IsEachLayout : RequestedSettings → ℕ → List Event → List ℕ → Type 0
IsEachLayout requested_settings limit events text = (x : Encoding) (whole : List Item)
    → IsStream requested_settings x events whole → IsText limit x whole text

-- The fault names a limit that each of them passes.
abbrev pub IsPastEach : RequestedSettings → ℕ → List Event → Fault → Type 0
IsPastEach requested_settings limit events fault = (x : Encoding) (whole : List Item)
    → IsStream requested_settings x events whole → Passes limit (encode x whole) (is_deep whole)
    fault
