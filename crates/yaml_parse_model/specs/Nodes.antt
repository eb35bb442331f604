-- Nodes of documents, without where their texts and lists lie in memory.
use Rattle.std.specs.Prelude.{ℕ, ℤ, List, codes}
use Rattle.yaml_scan_model.specs.declared.record.yaml_mark_t.{yaml_mark_t}
use Rattle.yaml_scan_model.specs.declared.name.yaml_scalar_style_t.{yaml_scalar_style_t}
use Rattle.yaml_scan_model.specs.declared.name.yaml_sequence_style_t.{yaml_sequence_style_t}
use Rattle.yaml_scan_model.specs.declared.name.yaml_mapping_style_t.{yaml_mapping_style_t}
use Rattle.yaml_scan_model.specs.declared.name.yaml_node_type_t.{yaml_node_type_t}
use Rattle.yaml_scan_model.specs.declared.name.yaml_node_type_t.TheVariants as kind
use Rattle.yaml_parse_model.specs.declared.node.yaml_node_pair_t.{yaml_node_pair_t}
use Rattle.yaml_parse_model.specs.declared.node.yaml_node_body_t.{yaml_node_body_t}
use Rattle.yaml_parse_model.specs.declared.node.yaml_node_body_t.TheVariants as body
use Rattle.yaml_parse_model.specs.declared.node.yaml_node_tag_t.{yaml_node_tag_t}
use Rattle.yaml_parse_model.specs.declared.node.yaml_node_tag_t.TheVariants as tag
use Rattle.yaml_parse_model.specs.declared.node.yaml_node_t.{yaml_node_t}

-- what a node is
pub data NodeBody : Type 0 where
  no : NodeBody
  scalar : List ℕ → yaml_scalar_style_t → NodeBody
  sequence : List ℤ → yaml_sequence_style_t → NodeBody
  mapping : List yaml_node_pair_t → yaml_mapping_style_t → NodeBody

pub record Node : Type 0 where
  pub body : NodeBody
  pub tag : List ℕ
  pub start_mark : yaml_mark_t
  pub end_mark : yaml_mark_t

abbrev pub body_of : yaml_node_body_t → NodeBody
body_of body.No = no
body_of (body.Scalar style value) = scalar value style
body_of (body.Sequence items style) = sequence items.items style
body_of (body.Mapping pairs style) = mapping pairs.items style

-- what `!!` stands for where no directive says it
abbrev pub secondary_prefix : List ℕ
secondary_prefix = codes "tag:yaml.org,2002:"

-- the tags that nodes have by default
abbrev pub str_tag : List ℕ
str_tag = codes "tag:yaml.org,2002:str"

abbrev pub seq_tag : List ℕ
seq_tag = codes "tag:yaml.org,2002:seq"

abbrev pub map_tag : List ℕ
map_tag = codes "tag:yaml.org,2002:map"

-- the bytes of a tag
abbrev pub tag_of : yaml_node_tag_t → List ℕ
tag_of tag.Str = str_tag
tag_of tag.Seq = seq_tag
tag_of tag.Map = map_tag
tag_of (tag.Spelled text) = text.items

abbrev pub node_of : yaml_node_t → Node
node_of n = record {
  body = body_of n.body;
  tag = tag_of n.tag;
  start_mark = n.start_mark;
  end_mark = n.end_mark;
}

-- the kind of a node
abbrev pub type_of : NodeBody → yaml_node_type_t
type_of no = kind.YAML_NO_NODE
type_of (scalar _ _) = kind.YAML_SCALAR_NODE
type_of (sequence _ _) = kind.YAML_SEQUENCE_NODE
type_of (mapping _ _) = kind.YAML_MAPPING_NODE
