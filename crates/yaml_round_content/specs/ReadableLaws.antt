-- The text that people read reads back, and is a normal form of contents.
use Rattle.std.specs.Prelude.{◌≡◌, ℕ, false, List}
use Rattle.yaml_parse_model.specs.scan_model.declared.name.yaml_encoding_t.{yaml_encoding_t}
use Rattle.yaml_parse_model.specs.scan_model.declared.name.yaml_encoding_t.TheVariants.{YAML_ANY_ENCODING}
use Rattle.yaml_emit_laws.specs.emit_layout.declared.RequestedSettings.{RequestedSettings}
use Rattle.yaml_round_content.specs.Said.{Document, HasContent}
use Rattle.yaml_round_content.specs.Writable.{AreWritable}
use Rattle.yaml_round_content.specs.Readable.{readable}

-- It is accepted, and says the content, whatever else is set.
abbrev pub ReadableReadsBack : Type 0
ReadableReadsBack = (w : RequestedSettings) → w.canonical ≡ false → (c : List Document)
    → AreWritable c → HasContent YAML_ANY_ENCODING (readable w c) c

-- Contents that may be written and have one such text are one.
abbrev pub ReadableTellsContents : Type 0
ReadableTellsContents = (w : RequestedSettings) → w.canonical ≡ false → (c e : List Document)
    → AreWritable c → AreWritable e → readable w c ≡ readable w e → c ≡ e

-- ---- of inputs

-- For every input that is accepted, and all settings of pretty form: that text of what it says is accepted, with its encoding
-- detected, and says exactly that.
abbrev pub ReadableIsRead : Type 0
ReadableIsRead = (from : yaml_encoding_t) (input : List ℕ) (c : List Document)
    → HasContent from input c → (w : RequestedSettings) → w.canonical ≡ false
    → HasContent YAML_ANY_ENCODING (readable w c) c

-- Inputs whose contents have one such text have one content.
abbrev pub ReadableTellsInputs : Type 0
ReadableTellsInputs = (w : RequestedSettings) → w.canonical ≡ false
    → (a_from b_from : yaml_encoding_t) (a b : List ℕ) (c e : List Document)
    → HasContent a_from a c → HasContent b_from b e → readable w c ≡ readable w e → c ≡ e
