-- Pretty text reads back, unless the input begins with nothing: the laws beneath, and the theorem.
use Rattle.std.specs.Prelude.{◌≡◌, ℕ, true, false, List, Ok}
use Rattle.yaml_emit_laws.specs.scan_decode.Encodings.{encoding_of}
use Rattle.yaml_emit_laws.specs.scan_decode.Decoding.{decoded_text}
use Rattle.yaml_parse_model.specs.declared.yaml_encoding_t.{yaml_encoding_t}
use Rattle.yaml_parse_model.specs.declared.yaml_encoding_t.TheVariants.{YAML_ANY_ENCODING}
use Rattle.yaml_emit_laws.specs.emit_layout.Text.{Item, encode}
use Rattle.yaml_emit_laws.specs.emit_layout.declared.Encoding.{Encoding}
use Rattle.yaml_emit_laws.specs.emit_layout.declared.Settings.{Settings}
use Rattle.yaml_emit_laws.specs.emit_layout.declared.RequestedSettings.{RequestedSettings}
use Rattle.yaml_emit_laws.specs.emit_layout.Content.{Document}
use Rattle.yaml_emit_laws.specs.emit_layout.Streams.{IsStream}
use Rattle.yaml_emit_laws.specs.Writable.{AreWritable}
use Rattle.yaml_round_content.specs.Events.{emitter_events}
use Rattle.yaml_round_content.specs.Input.{events_of}
use Rattle.yaml_round_content.specs.BytesLaws.{DocumentsAreSpellable, canonical_bytes, canonical_text, encoding_named}
use Rattle.yaml_round_content.specs.Adapting.{HaveTexts}
use Rattle.yaml_round_content.specs.Stays.{SaysInput}
use Rattle.yaml_emit_laws.specs.DocLaws.{PrettyTextIsRead}
use Rattle.yaml_round_content.specs.Flags.{begins_with_nothing}

-- ---- the laws beneath

-- With the encoding detected, the bytes of documents that may be written decode to the text, in the encoding that was set.
abbrev pub PrettyBytesDecode : Type 0
PrettyBytesDecode = (s : Settings) (ds : List Document) → AreWritable ds → DocumentsAreSpellable ds
    → (decoded_text YAML_ANY_ENCODING (canonical_bytes s ds) ≡ Ok (canonical_text s ds))
    × (encoding_of YAML_ANY_ENCODING (canonical_bytes s ds) ≡ encoding_named s.encoding)

-- Documents that are laid out in pretty form for an input may be written, their texts can be spelled, and their tags read.
abbrev pub InputsLayoutIsWritable : Type 0
InputsLayoutIsWritable = (w : RequestedSettings) → w.canonical ≡ false → (from : yaml_encoding_t)
    → (input : List ℕ) (x : Encoding) (whole : List Item)
    → (stream : IsStream w x (emitter_events false (events_of from input)) whole)
    → AreWritable stream.documents × DocumentsAreSpellable stream.documents
    × HaveTexts stream.documents

-- ---- the theorem

-- Under all settings, the text that is laid out in pretty form for an input that doesn't begin with nothing, read with its encoding
-- detected, is accepted and has the input's content.
abbrev pub PrettyReadsBack : Type 0
PrettyReadsBack = (w : RequestedSettings) → w.canonical ≡ false → (from : yaml_encoding_t)
    → (input : List ℕ) → begins_with_nothing (emitter_events false (events_of from input)) ≡ false
    → (x : Encoding) (whole : List Item)
    → IsStream w x (emitter_events false (events_of from input)) whole
    → SaysInput from input (encode x whole)

-- That of an input that begins with nothing never is.
abbrev pub PrettyIsLost : Type 0
PrettyIsLost = (w : RequestedSettings) → w.canonical ≡ false → (from : yaml_encoding_t)
    → (input : List ℕ) → begins_with_nothing (emitter_events false (events_of from input)) ≡ true
    → (x : Encoding) (whole : List Item)
    → IsStream w x (emitter_events false (events_of from input)) whole
    → SaysInput from input (encode x whole) → ⊥

-- Both follow from the law of text.
abbrev pub PrettyFollows : Type 0
PrettyFollows = PrettyTextIsRead → PrettyReadsBack × PrettyIsLost
