-- A text that says what an input says.
use Rattle.std.specs.Prelude.{◌≡◌, ℕ, List, None}
use Rattle.yaml_parse_model.specs.scan_model.declared.name.yaml_encoding_t.{yaml_encoding_t}
use Rattle.yaml_parse_model.specs.scan_model.declared.name.yaml_encoding_t.TheVariants.{YAML_ANY_ENCODING}
use Rattle.yaml_round_content.specs.Events.{contents}
use Rattle.yaml_round_content.specs.Input.{events_of, ending_of}

-- Read with its encoding detected, the text is accepted and has the input's content.
abbrev pub SaysInput : yaml_encoding_t → List ℕ → List ℕ → Type 0
SaysInput from input text = (ending_of YAML_ANY_ENCODING text ≡ None)
    × (contents (events_of YAML_ANY_ENCODING text) ≡ contents (events_of from input))
