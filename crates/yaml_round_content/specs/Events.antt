-- The events of an input, as an emitter sees them, and what they say.
use Rattle.std.specs.Prelude.{Bool, true, List, map}
use Rattle.yaml_parse_model.specs.Events.{EventBody}
use Rattle.yaml_emit_laws.specs.parse_grammar.Resolve.{Told}
use Rattle.yaml_emit_laws.specs.emit_layout.Content.{emitter_event}
use Rattle.yaml_emit_laws.specs.emit_layout.Content as emit
use Rattle.yaml_round_content.specs.Normalize.{normalize_body}
use Rattle.yaml_round_content.specs.Content.{content_of}

-- the events normalized, as an emitter sees them; `ends`: every document's end is implicit
abbrev pub emitter_events : Bool → List Told → List emit.Event
emitter_events ends es = map (λ (t : Told). emitter_event (normalize_body ends t.0.body)) es

-- what the events say, styles and document marks aside
abbrev pub contents : List Told → List EventBody
contents es = map (λ (t : Told). content_of (normalize_body true t.0.body)) es
