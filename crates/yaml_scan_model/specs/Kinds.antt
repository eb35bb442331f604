-- What kinds say of tokens.
use Rattle.std.specs.Prelude.{◌≡◌, Bool, true, false}
use Rattle.yaml_scan_types.specs.declared.name.yaml_token_type_t.{yaml_token_type_t}
use Rattle.yaml_scan_types.specs.declared.name.yaml_token_type_t.TheVariants as type
use Rattle.yaml_scan_types.specs.Tokens.{Token, TokenBody}
use Rattle.yaml_scan_types.specs.Tokens as token
use Rattle.yaml_scan_model.specs.declared.kind.Kind.{Kind}
use Rattle.yaml_scan_model.specs.declared.kind.Kind.TheVariants as kind
use Rattle.yaml_scan_model.specs.Texts.{value_in, style_in, name_in, handle_in, suffix_in, major_in, minor_in, encoding_in}

-- there is no token, but a fault
abbrev pub is_fault : Kind → Bool
is_fault kind.Failed = true
is_fault kind.BadTag = true
is_fault kind.BadPrefix = true
is_fault k = false

-- the body of that kind which carries what the other one does
abbrev pub body_by : Kind → TokenBody → TokenBody
body_by kind.StreamStart b = token.stream_start (encoding_in b)
body_by kind.StreamEnd b = token.stream_end
body_by kind.VersionDirective b = token.version_directive (major_in b) (minor_in b)
body_by kind.TagDirective b = token.tag_directive (handle_in b) (suffix_in b)
body_by kind.DocumentStart b = token.document_start
body_by kind.DocumentEnd b = token.document_end
body_by kind.BlockSequenceStart b = token.block_sequence_start
body_by kind.BlockMappingStart b = token.block_mapping_start
body_by kind.BlockEnd b = token.block_end
body_by kind.FlowSequenceStart b = token.flow_sequence_start
body_by kind.FlowSequenceEnd b = token.flow_sequence_end
body_by kind.FlowMappingStart b = token.flow_mapping_start
body_by kind.FlowMappingEnd b = token.flow_mapping_end
body_by kind.BlockEntry b = token.block_entry
body_by kind.FlowEntry b = token.flow_entry
body_by kind.Key b = token.key
body_by kind.Value b = token.value
body_by kind.Alias b = token.alias (name_in b)
body_by kind.Anchor b = token.anchor (name_in b)
body_by kind.Tag b = token.tag (handle_in b) (suffix_in b)
body_by kind.Scalar b = token.scalar (value_in b) (style_in b)
body_by k b = token.no

-- it is of that kind
abbrev pub IsOf : Kind → TokenBody → Type 0
IsOf k b = b ≡ body_by k b

abbrev pub token_by : Kind → Token → Token
token_by k t = record { body = body_by k t.body; start_mark = t.start_mark; end_mark = t.end_mark }

-- libyaml's name of a kind
abbrev pub type_by : Kind → yaml_token_type_t
type_by kind.StreamStart = type.YAML_STREAM_START_TOKEN
type_by kind.StreamEnd = type.YAML_STREAM_END_TOKEN
type_by kind.VersionDirective = type.YAML_VERSION_DIRECTIVE_TOKEN
type_by kind.TagDirective = type.YAML_TAG_DIRECTIVE_TOKEN
type_by kind.DocumentStart = type.YAML_DOCUMENT_START_TOKEN
type_by kind.DocumentEnd = type.YAML_DOCUMENT_END_TOKEN
type_by kind.BlockSequenceStart = type.YAML_BLOCK_SEQUENCE_START_TOKEN
type_by kind.BlockMappingStart = type.YAML_BLOCK_MAPPING_START_TOKEN
type_by kind.BlockEnd = type.YAML_BLOCK_END_TOKEN
type_by kind.FlowSequenceStart = type.YAML_FLOW_SEQUENCE_START_TOKEN
type_by kind.FlowSequenceEnd = type.YAML_FLOW_SEQUENCE_END_TOKEN
type_by kind.FlowMappingStart = type.YAML_FLOW_MAPPING_START_TOKEN
type_by kind.FlowMappingEnd = type.YAML_FLOW_MAPPING_END_TOKEN
type_by kind.BlockEntry = type.YAML_BLOCK_ENTRY_TOKEN
type_by kind.FlowEntry = type.YAML_FLOW_ENTRY_TOKEN
type_by kind.Key = type.YAML_KEY_TOKEN
type_by kind.Value = type.YAML_VALUE_TOKEN
type_by kind.Alias = type.YAML_ALIAS_TOKEN
type_by kind.Anchor = type.YAML_ANCHOR_TOKEN
type_by kind.Tag = type.YAML_TAG_TOKEN
type_by kind.Scalar = type.YAML_SCALAR_TOKEN
type_by k = type.YAML_NO_TOKEN
