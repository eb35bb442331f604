-- Tokens, without where their texts lie in memory.
use Rattle.std.specs.Prelude.{ℕ, ℤ, List}
use Rattle.yaml_scan_types.specs.declared.name.yaml_encoding_t.{yaml_encoding_t}
use Rattle.yaml_scan_types.specs.declared.name.yaml_scalar_style_t.{yaml_scalar_style_t}
use Rattle.yaml_scan_types.specs.declared.name.yaml_token_type_t.{yaml_token_type_t}
use Rattle.yaml_scan_types.specs.declared.name.yaml_token_type_t.TheVariants as kind
use Rattle.yaml_scan_types.specs.declared.record.yaml_mark_t.{yaml_mark_t}
use Rattle.yaml_scan_types.specs.declared.token.yaml_token_body_t.{yaml_token_body_t}
use Rattle.yaml_scan_types.specs.declared.token.yaml_token_body_t.TheVariants as body
use Rattle.yaml_scan_types.specs.declared.token.yaml_token_t.{yaml_token_t}

-- what a token is, its texts as lists
pub data TokenBody : Type 0 where
  no : TokenBody
  stream_start : yaml_encoding_t → TokenBody
  stream_end : TokenBody
  version_directive : ℤ → ℤ → TokenBody
  tag_directive : List ℕ → List ℕ → TokenBody
  document_start : TokenBody
  document_end : TokenBody
  block_sequence_start : TokenBody
  block_mapping_start : TokenBody
  block_end : TokenBody
  flow_sequence_start : TokenBody
  flow_sequence_end : TokenBody
  flow_mapping_start : TokenBody
  flow_mapping_end : TokenBody
  block_entry : TokenBody
  flow_entry : TokenBody
  key : TokenBody
  value : TokenBody
  alias : List ℕ → TokenBody
  anchor : List ℕ → TokenBody
  tag : List ℕ → List ℕ → TokenBody
  scalar : List ℕ → yaml_scalar_style_t → TokenBody

pub record Token : Type 0 where
  pub body : TokenBody
  pub start_mark : yaml_mark_t
  pub end_mark : yaml_mark_t

abbrev pub body_of : yaml_token_body_t → TokenBody
body_of body.No = no
body_of (body.StreamStart a) = stream_start a
body_of body.StreamEnd = stream_end
body_of (body.VersionDirective a b) = version_directive a b
body_of (body.TagDirective a b) = tag_directive a.items b.items
body_of body.DocumentStart = document_start
body_of body.DocumentEnd = document_end
body_of body.BlockSequenceStart = block_sequence_start
body_of body.BlockMappingStart = block_mapping_start
body_of body.BlockEnd = block_end
body_of body.FlowSequenceStart = flow_sequence_start
body_of body.FlowSequenceEnd = flow_sequence_end
body_of body.FlowMappingStart = flow_mapping_start
body_of body.FlowMappingEnd = flow_mapping_end
body_of body.BlockEntry = block_entry
body_of body.FlowEntry = flow_entry
body_of body.Key = key
body_of body.Value = value
body_of (body.Alias a) = alias a.items
body_of (body.Anchor a) = anchor a.items
body_of (body.Tag a b) = tag a.items b.items
body_of (body.Scalar a b) = scalar a.items b

abbrev pub token_of : yaml_token_t → Token
token_of t = record { body = body_of t.body; start_mark = t.start_mark; end_mark = t.end_mark }

-- the kind of a token
abbrev pub type_of : TokenBody → yaml_token_type_t
type_of no = kind.YAML_NO_TOKEN
type_of (stream_start a) = kind.YAML_STREAM_START_TOKEN
type_of stream_end = kind.YAML_STREAM_END_TOKEN
type_of (version_directive a b) = kind.YAML_VERSION_DIRECTIVE_TOKEN
type_of (tag_directive a b) = kind.YAML_TAG_DIRECTIVE_TOKEN
type_of document_start = kind.YAML_DOCUMENT_START_TOKEN
type_of document_end = kind.YAML_DOCUMENT_END_TOKEN
type_of block_sequence_start = kind.YAML_BLOCK_SEQUENCE_START_TOKEN
type_of block_mapping_start = kind.YAML_BLOCK_MAPPING_START_TOKEN
type_of block_end = kind.YAML_BLOCK_END_TOKEN
type_of flow_sequence_start = kind.YAML_FLOW_SEQUENCE_START_TOKEN
type_of flow_sequence_end = kind.YAML_FLOW_SEQUENCE_END_TOKEN
type_of flow_mapping_start = kind.YAML_FLOW_MAPPING_START_TOKEN
type_of flow_mapping_end = kind.YAML_FLOW_MAPPING_END_TOKEN
type_of block_entry = kind.YAML_BLOCK_ENTRY_TOKEN
type_of flow_entry = kind.YAML_FLOW_ENTRY_TOKEN
type_of key = kind.YAML_KEY_TOKEN
type_of value = kind.YAML_VALUE_TOKEN
type_of (alias a) = kind.YAML_ALIAS_TOKEN
type_of (anchor a) = kind.YAML_ANCHOR_TOKEN
type_of (tag a b) = kind.YAML_TAG_TOKEN
type_of (scalar a b) = kind.YAML_SCALAR_TOKEN

abbrev pub zero_mark : yaml_mark_t
zero_mark = record { index = 0; line = 0; column = 0 }

-- the empty token
abbrev pub no_token : Token
no_token = record { body = no; start_mark = zero_mark; end_mark = zero_mark }
