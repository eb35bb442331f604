-- What an input says may be written, and how its events are flagged.
use Rattle.std.specs.Prelude.{◌≡◌, ℕ, true, List, [], ◌∷◌}
use Rattle.yaml_parse_model.specs.scan_model.declared.name.yaml_encoding_t.{yaml_encoding_t}
use Rattle.yaml_parse_model.specs.Constructors.{HasUtf8}
use Rattle.yaml_emit_laws.specs.parse_grammar.Resolve.{Told}
use Rattle.yaml_emit_laws.specs.emit_layout.Streams.{IsStream}
use Rattle.yaml_emit_laws.specs.emit_layout.Text.{Item}
use Rattle.yaml_emit_laws.specs.emit_layout.declared.Encoding.{Encoding}
use Rattle.yaml_emit_laws.specs.emit_layout.declared.RequestedSettings.{RequestedSettings}
use Rattle.yaml_round_content.specs.Events.{emitter_events}
use Rattle.yaml_round_content.specs.Input.{events_of}
use Rattle.yaml_round_content.specs.Said.{Document, HasContent}
use Rattle.yaml_round_content.specs.Canon.{canon_items, canon_encoding}
use Rattle.yaml_round_content.specs.ContentLaws.{AreCanonical, AreFlagged}
use Rattle.yaml_round_content.specs.Writable.{AreWritable}

-- ---- flags

-- Of an input's normalized events, also those before a fault, an untagged scalar may be quoted exactly where it doesn't count
-- as plain.
abbrev pub InputsAreFlagged : Type 0
InputsAreFlagged = (from : yaml_encoding_t) (input : List ℕ)
    → AreFlagged (emitter_events true (events_of from input))

-- What is laid out in canonical form for the events of an input is the layout of the input's content.
abbrev pub LayoutIsOfInputsContent : Type 0
LayoutIsOfInputsContent = (w : RequestedSettings) → AreCanonical w
    → (from : yaml_encoding_t) (input : List ℕ) (c : List Document) → HasContent from input c
    → (x : Encoding) (whole : List Item)
    → IsStream w x (emitter_events true (events_of from input)) whole
    → (x ≡ canon_encoding w) × (whole ≡ canon_items w c)

-- The layout of an input's content is laid out for the events of the input.
abbrev pub InputsContentIsLaidOut : Type 0
InputsContentIsLaidOut = (w : RequestedSettings) → AreCanonical w
    → (from : yaml_encoding_t) (input : List ℕ) (c : List Document) → HasContent from input c
    → IsStream w (canon_encoding w) (emitter_events true (events_of from input)) (canon_items w c)

-- ---- texts

-- the texts of each event are UTF-8
abbrev pub HaveUtf8Texts : List Told → Type 0
HaveUtf8Texts [] = Unit {0}
HaveUtf8Texts (t ∷ ts) = HasUtf8 t.0.body × HaveUtf8Texts ts

-- The texts of an input's events, also of those before a fault, are UTF-8.
abbrev pub InputsHaveUtf8 : Type 0
InputsHaveUtf8 = (from : yaml_encoding_t) (input : List ℕ) → HaveUtf8Texts (events_of from input)

-- ---- what an input says

-- The content of each input may be written.
abbrev pub InputsAreWritable : Type 0
InputsAreWritable = (from : yaml_encoding_t) (input : List ℕ) (c : List Document)
    → HasContent from input c → AreWritable c
