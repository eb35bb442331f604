-- What events say, without styles and marks: contents are equal exactly if the events' are, one after another.
use Rattle.std.specs.Prelude.{ℕ, Bool, true, false, List, Option, Some, None}
use Rattle.yaml_parse_model.specs.scan_model.declared.name.yaml_encoding_t.TheVariants.{YAML_ANY_ENCODING}
use Rattle.yaml_parse_model.specs.scan_model.declared.name.yaml_scalar_style_t.TheVariants.{YAML_ANY_SCALAR_STYLE}
use Rattle.yaml_parse_model.specs.scan_model.declared.name.yaml_sequence_style_t.TheVariants.{YAML_ANY_SEQUENCE_STYLE}
use Rattle.yaml_parse_model.specs.scan_model.declared.name.yaml_mapping_style_t.TheVariants.{YAML_ANY_MAPPING_STYLE}
use Rattle.yaml_parse_model.specs.Events.{EventBody}
use Rattle.yaml_parse_model.specs.Events as event

-- an untagged scalar counts as plain or not; of a tagged one this isn't said
abbrev pub counts_as_plain : Option (List ℕ) → Bool → Bool
counts_as_plain None plain = plain
counts_as_plain (Some tag) plain = false

-- what a normalized event says
abbrev pub content_of : EventBody → EventBody
content_of (event.stream_start encoding) = event.stream_start YAML_ANY_ENCODING
content_of (event.document_start version directives implicit) = event.document_start version
    directives true
content_of (event.document_end implicit) = event.document_end true
content_of (event.scalar anchor tag value plain quoted style) = event.scalar anchor tag value
    (counts_as_plain tag plain) false YAML_ANY_SCALAR_STYLE
content_of (event.sequence_start anchor tag implicit style) = event.sequence_start anchor tag true
    YAML_ANY_SEQUENCE_STYLE
content_of (event.mapping_start anchor tag implicit style) = event.mapping_start anchor tag true
    YAML_ANY_MAPPING_STYLE
content_of other = other
