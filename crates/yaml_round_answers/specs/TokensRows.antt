-- The numbers of tokens by rows: the constants of libyaml's enum in their order, the first of which has the number 0.
use Rattle.std.specs.Prelude.{List, [], ◌∷◌}
use Rattle.yaml_scan.specs.declared.yaml_token_type_t.{yaml_token_type_t}
use Rattle.yaml_scan.specs.declared.yaml_token_type_t.TheVariants as kind

abbrev pub token_kinds : List yaml_token_type_t
token_kinds = kind.YAML_NO_TOKEN ∷ kind.YAML_STREAM_START_TOKEN ∷ kind.YAML_STREAM_END_TOKEN
    ∷ kind.YAML_VERSION_DIRECTIVE_TOKEN ∷ kind.YAML_TAG_DIRECTIVE_TOKEN
    ∷ kind.YAML_DOCUMENT_START_TOKEN ∷ kind.YAML_DOCUMENT_END_TOKEN
    ∷ kind.YAML_BLOCK_SEQUENCE_START_TOKEN ∷ kind.YAML_BLOCK_MAPPING_START_TOKEN
    ∷ kind.YAML_BLOCK_END_TOKEN ∷ kind.YAML_FLOW_SEQUENCE_START_TOKEN
    ∷ kind.YAML_FLOW_SEQUENCE_END_TOKEN ∷ kind.YAML_FLOW_MAPPING_START_TOKEN
    ∷ kind.YAML_FLOW_MAPPING_END_TOKEN ∷ kind.YAML_BLOCK_ENTRY_TOKEN ∷ kind.YAML_FLOW_ENTRY_TOKEN
    ∷ kind.YAML_KEY_TOKEN ∷ kind.YAML_VALUE_TOKEN ∷ kind.YAML_ALIAS_TOKEN ∷ kind.YAML_ANCHOR_TOKEN
    ∷ kind.YAML_TAG_TOKEN ∷ kind.YAML_SCALAR_TOKEN ∷ []
