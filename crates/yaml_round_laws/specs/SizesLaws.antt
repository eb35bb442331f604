-- How deep an input's nodes can be, how long an input exceeds no column, and how long canonical text can be.
use Rattle.std.specs.Prelude.{◌≡◌, ℕ, ◌+◌, ◌*◌, ◌<◌, ◌≤◌, Bool, true, false, List, length, Ok}
use Rattle.yaml_round_content.specs.scan_model.declared.name.yaml_encoding_t.{yaml_encoding_t}
use Rattle.yaml_round_content.specs.scan_model.declared.name.yaml_encoding_t.TheVariants.{YAML_ANY_ENCODING, YAML_UTF8_ENCODING, YAML_UTF16LE_ENCODING, YAML_UTF16BE_ENCODING}
use Rattle.yaml_scan_decode.specs.Encodings.{encoding_of}
use Rattle.yaml_emit_layout.specs.declared.Encoding.{Encoding}
use Rattle.yaml_emit_layout.specs.declared.RequestedSettings.{RequestedSettings}
use Rattle.yaml_emit_layout.specs.Settings.{settled, settled_indent}
use Rattle.yaml_emit_layout.specs.Text.{Item, encode, is_deep}
use Rattle.yaml_emit_layout.specs.Nodes.{MOST}
use Rattle.yaml_emit_layout.specs.Streams.{IsStream}
use Rattle.yaml_round_content.specs.Input.{events_of}
use Rattle.yaml_round_content.specs.Events.{emitter_events}
use Rattle.yaml_round_content.specs.Said.{Document}
use Rattle.yaml_round_content.specs.Canon.{written_documents, canon_encoding, canon_items, canonical_layout}
use Rattle.yaml_round_content.specs.Reading.{PlainReading}
use Rattle.yaml_emit_laws.specs.Depths.{RootStandsAt, IsTooDeep}
use Rattle.yaml_emit_laws.specs.Sizes.{unit, most_bytes}

-- A node at depth d takes one and a half bytes of its input for each level: three times the depth is at most twice the bytes, and
-- two.
abbrev pub DepthsTakeBytes : Type 0
DepthsTakeBytes = (from : yaml_encoding_t) (input : List ℕ) (c : List Document)
    → PlainReading from input (Ok c) → (d : ℕ)
    → RootStandsAt d (written_documents c) → 3 * d ≤ 2 * length input + 2

-- So where one is too deep for an indent, the input is so long.
abbrev pub DeepInputsAreLong : Type 0
DeepInputsAreLong = (from : yaml_encoding_t) (input : List ℕ) (c : List Document)
    → PlainReading from input (Ok c) → (indent : ℕ)
    → IsTooDeep indent (written_documents c) → 3 * MOST < (2 * length input + 5) * indent

-- And under an indent of 2 the canonical layout of what an input of at most 1,610,612,732 bytes says passes no column.
abbrev pub ShortInputsKeepColumns : Type 0
ShortInputsKeepColumns = (from : yaml_encoding_t) (input : List ℕ) (c : List Document)
    → PlainReading from input (Ok c) → length input ≤ 1610612732
    → (w : RequestedSettings) → w.canonical ≡ true → settled_indent w.indent ≡ 2
    → is_deep (canon_items w c) ≡ false

-- The length of a content's canonical text is bounded by its nodes, lines and texts.
abbrev pub CanonicalTextsAreBounded : Type 0
CanonicalTextsAreBounded = (w : RequestedSettings) → w.canonical ≡ true → (c : List Document)
    → length (canonical_layout w c) ≤ most_bytes (settled w YAML_ANY_ENCODING) (written_documents c)

-- ---- by the input's length

-- An input is read as a text in UTF-8, of at most that many bytes for each of its own: one, or two where it is UTF-16.
abbrev pub text_times : yaml_encoding_t → ℕ
text_times YAML_ANY_ENCODING = 1
text_times YAML_UTF8_ENCODING = 1
text_times YAML_UTF16LE_ENCODING = 2
text_times YAML_UTF16BE_ENCODING = 2

abbrev pub read_bytes : yaml_encoding_t → List ℕ → ℕ
read_bytes from input = text_times (encoding_of from input) * length input

-- Of n bytes that are read: twice the indent times (n + 8) squared characters of ASCII, in the encoding of the answer.
abbrev pub most_of_read : Encoding → ℕ → ℕ → ℕ
most_of_read x indent n = unit x * (2 * (indent * ((n + 8) * (n + 8))))

abbrev pub most_of_input : RequestedSettings → Encoding → yaml_encoding_t → List ℕ → ℕ
most_of_input w x from input = most_of_read x (settled_indent w.indent) (read_bytes from input)

-- The bound by the nodes, lines and texts of an input's content is no more than that.
abbrev pub ContentsAreBounded : Type 0
ContentsAreBounded = (from : yaml_encoding_t) (input : List ℕ) (c : List Document)
    → PlainReading from input (Ok c) → (w : RequestedSettings)
    → most_bytes (settled w YAML_ANY_ENCODING) (written_documents c)
    ≤ most_of_input w (canon_encoding w) from input

-- So its canonical text has at most that many bytes.
abbrev pub CanonicalTextsAreShort : Type 0
CanonicalTextsAreShort = (from : yaml_encoding_t) (input : List ℕ) (c : List Document)
    → PlainReading from input (Ok c) → (w : RequestedSettings) → w.canonical ≡ true
    → length (canonical_layout w c) ≤ most_of_input w (canon_encoding w) from input

-- And so has what is laid out for its events in either form, whatever their styles are.
abbrev pub LayoutsAreShort : Type 0
LayoutsAreShort = (from : yaml_encoding_t) (input : List ℕ) (c : List Document)
    → PlainReading from input (Ok c) → (w : RequestedSettings) (ends : Bool) (x : Encoding)
    (whole : List Item) → IsStream w x (emitter_events ends (events_of from input)) whole
    → length (encode x whole) ≤ most_of_input w x from input
