-- What `yaml_normalize` answers: the normal form that people read.
use Rattle.std.specs.Prelude.{◌≡◌, ◌⊎◌, false, ℕ, List, Result, Ok, Err}
use Rattle.yaml_parse.specs.declared.yaml_encoding_t.{yaml_encoding_t}
use Rattle.yaml_parse.specs.declared.yaml_encoding_t.TheVariants.{YAML_ANY_ENCODING}
use Rattle.yaml_scan_types.specs.Faults.{Fault}
use Rattle.yaml_emit.specs.Text.{Item, is_deep}
use Rattle.yaml_emit.specs.Emitter.{Passes}
use Rattle.yaml_emit.specs.Within.{Fits}
use Rattle.yaml_emit.specs.emit_layout.declared.Encoding.{Encoding}
use Rattle.yaml_round_device.specs.declared.yaml_settings_t.{yaml_settings_t}
use Rattle.yaml_round_content.specs.Said.{Document}
use Rattle.yaml_round_content.specs.Reading.{PlainReading}
use Rattle.yaml_round_content.specs.Canon.{canon_encoding}
use Rattle.yaml_round_content.specs.Readable.{readable, readable_items}
use Rattle.yaml_round_reading.specs.Answers.{IsFaulty}
use Rattle.yaml_round_engine.specs.Writing.{requested_under}

-- the layout that people read of a content, under the settings of a call
abbrev pub readable_layout : yaml_settings_t → List Document → List Item
readable_layout settings c = readable_items (requested_under settings false) c

abbrev pub readable_encoding : yaml_settings_t → Encoding
readable_encoding settings = canon_encoding (requested_under settings false)

-- and its text
abbrev pub readable_text : yaml_settings_t → List Document → List ℕ
readable_text settings c = readable (requested_under settings false) c

-- The text is that of what the input says, and passes no limit.
pub record IsReadableText (from : yaml_encoding_t) (settings : yaml_settings_t)
    (input text : List ℕ) : Type 0 where
  pub content : List Document
  pub of_input : PlainReading from input (Ok content)
  pub is : text ≡ readable_text settings content
  pub fits : Fits settings.limit (readable_encoding settings) (readable_layout settings content)

-- The text is the normal form of what the input says: it reads back as exactly that, no other content has it,
-- and it is its own normal form.
pub record IsReadableForm (from : yaml_encoding_t) (settings : yaml_settings_t)
    (input text : List ℕ) : Type 0 where
  -- what the input says
  pub content : List Document
  pub of_input : PlainReading from input (Ok content)
  -- the text, read as its byte order mark shows, is accepted and has the same content
  pub of_text : PlainReading YAML_ANY_ENCODING text (Ok content)
  -- it is that content's text
  pub is : text ≡ readable_text settings content
  -- what any input says whose text it is, is that content
  pub only : (other : yaml_encoding_t) (source : List ℕ) (c : List Document)
      → PlainReading other source (Ok c) → readable_text settings c ≡ text → c ≡ content
  -- normalized under the same settings it is the same text
  pub again : IsReadableText YAML_ANY_ENCODING settings text text

-- The input is accepted, and that text of what it says passes the limit that the fault names.
pub record IsReadablePast (from : yaml_encoding_t) (settings : yaml_settings_t) (input : List ℕ)
    (fault : Fault) : Type 0 where
  pub content : List Document
  pub of_input : PlainReading from input (Ok content)
  pub passes : Passes settings.limit (readable_text settings content)
      (is_deep (readable_layout settings content)) fault

-- The engine may answer this to the input: the normal form, the input's fault, or the limit that this form passes.
abbrev pub IsReadableAnswer : yaml_encoding_t → yaml_settings_t → List ℕ
    → Result (List ℕ) Fault → Type 0
IsReadableAnswer from settings input (Ok text) = IsReadableForm from settings input text
IsReadableAnswer from settings input (Err fault) = IsFaulty from input fault
    ⊎ IsReadablePast from settings input fault
