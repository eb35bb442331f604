-- What the normalized events of an input are, as an emitter in pretty form sees them.
use Rattle.std.specs.Prelude.{◌≡◌, ℕ, false, List, [], ◌∷◌}
use Rattle.yaml_parse_model.specs.declared.yaml_encoding_t.{yaml_encoding_t}
use Rattle.yaml_emit_laws.specs.emit_layout.Text.{Item}
use Rattle.yaml_emit_laws.specs.emit_layout.declared.Encoding.{Encoding}
use Rattle.yaml_emit_laws.specs.emit_layout.declared.RequestedSettings.{RequestedSettings}
use Rattle.yaml_emit_laws.specs.emit_layout.Content.{Document, stream_events}
use Rattle.yaml_emit_laws.specs.emit_layout.Streams.{IsStream}
use Rattle.yaml_round_content.specs.Events.{emitter_events}
use Rattle.yaml_round_content.specs.Input.{events_of}
use Rattle.yaml_round_content.specs.TreeLaws.{HasNoMark, AreParsable}
use Rattle.yaml_round_content.specs.KeptLaws.{IsJsonInput}
use Rattle.yaml_round_content.specs.Flags.{HaveReaderFlags, begins_with_nothing}

-- no scalar has the tag `!`
abbrev pub HaveNoMarks : List Document → Type 0
HaveNoMarks [] = Unit {0}
HaveNoMarks (d ∷ ds) = HasNoMark d.root × HaveNoMarks ds

-- Where an input's events are a stream's, its documents have flags as a reader gives them, and no scalar has the tag `!`.
abbrev pub InputsHaveReaderFlags : Type 0
InputsHaveReaderFlags = (from : yaml_encoding_t) (input : List ℕ) (x : yaml_encoding_t)
    → (ds : List Document) → emitter_events false (events_of from input) ≡ stream_events x ds
    → HaveReaderFlags ds × HaveNoMarks ds

-- So where a text is laid out for them, its documents' tokens can be parsed.
abbrev pub InputsAreParsable : Type 0
InputsAreParsable = (w : RequestedSettings) (from : yaml_encoding_t) (input : List ℕ)
    → (x : Encoding) (whole : List Item)
    → (stream : IsStream w x (emitter_events false (events_of from input)) whole)
    → AreParsable stream.documents

-- An input shaped as JSON doesn't begin with nothing.
abbrev pub JsonBeginsWithSomething : Type 0
JsonBeginsWithSomething = (from : yaml_encoding_t) (input : List ℕ) → IsJsonInput from input
    → begins_with_nothing (emitter_events false (events_of from input)) ≡ false
