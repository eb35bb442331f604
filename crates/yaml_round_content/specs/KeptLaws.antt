-- Inputs shaped as JSON.
use Rattle.std.specs.Prelude.{◌≡◌, ℕ, false, List, [], ◌∷◌}
use Rattle.yaml_parse_model.specs.scan_model.declared.name.yaml_encoding_t.{yaml_encoding_t}
use Rattle.yaml_round_content.specs.Events.{emitter_events}
use Rattle.yaml_emit_laws.specs.parse_grammar.Resolve.{Told}
use Rattle.yaml_round_content.specs.Reading.{HasEvents}
use Rattle.yaml_emit_laws.specs.emit_layout.Content.{Document, stream_events}
use Rattle.yaml_emit_laws.specs.Json.{IsJsonDocument}

-- What the input says, styles and all, is one document shaped as JSON is: without directives; each
-- collection in brackets, each key a scalar; no anchors, aliases and tags; each scalar double quoted,
-- or plain and of letters, digits and `+ - .`, with a letter or a digit first, or `-` before one.
pub record IsJsonInput (from : yaml_encoding_t) (input : List ℕ) : Type 0 where
  pub events : List Told
  pub of_input : HasEvents from input events
  pub encoding : yaml_encoding_t
  pub document : Document
  pub shaped : IsJsonDocument document
  -- in normalized events
  pub says : emitter_events false events ≡ stream_events encoding (document ∷ [])

-- The events of a stream are those of one list of documents.
abbrev pub StreamsAreKnown : Type 0
StreamsAreKnown = (x y : yaml_encoding_t) (c e : List Document)
    → stream_events x c ≡ stream_events y e → c ≡ e
