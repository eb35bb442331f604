-- Items: what the grammar gives, before tags and directives are resolved.
use Rattle.std.specs.Prelude.{ℕ, ℤ, Bool, List, Option, Some, None}
use Rattle.yaml_parse_model.specs.declared.yaml_mark_t.{yaml_mark_t}
use Rattle.yaml_parse_model.specs.declared.yaml_scalar_style_t.{yaml_scalar_style_t}
use Rattle.yaml_parse_model.specs.declared.yaml_sequence_style_t.{yaml_sequence_style_t}
use Rattle.yaml_parse_model.specs.declared.yaml_mapping_style_t.{yaml_mapping_style_t}
use Rattle.yaml_parse_model.specs.Events.{EventBody}

-- a tag as it is written, and where it begins
pub record Tag : Type 0 where
  pub handle : List ℕ
  pub suffix : List ℕ
  pub mark : yaml_mark_t

-- the properties of a node, and where they are
pub record Properties : Type 0 where
  pub anchor : Option (List ℕ)
  pub tag : Option Tag
  pub from : yaml_mark_t
  pub to : yaml_mark_t

-- what a node is
pub data Shape : Type 0 where
  empty : Shape
  scalar : List ℕ → yaml_scalar_style_t → Shape
  sequence : yaml_sequence_style_t → Shape
  mapping : yaml_mapping_style_t → Shape

pub data RawEventBody : Type 0 where
  -- an event that has nothing to resolve
  event : EventBody → RawEventBody
  -- a `%YAML` directive: major, minor
  version_directive : ℤ → ℤ → RawEventBody
  -- a `%TAG` directive: handle, prefix
  tag_directive : List ℕ → List ℕ → RawEventBody
  -- a document starts, with the directives before it; implicit
  document : Bool → RawEventBody
  -- a node starts, or is whole: anchor, tag
  node : Option (List ℕ) → Option Tag → Shape → RawEventBody

pub record RawEvent : Type 0 where
  pub body : RawEventBody
  pub from : yaml_mark_t
  pub to : yaml_mark_t

abbrev pub item_at : RawEventBody → yaml_mark_t → yaml_mark_t → RawEvent
item_at body from to = record { body = body; from = from; to = to }

-- an empty node without properties, at a mark
abbrev pub blank : yaml_mark_t → RawEvent
blank mark = item_at (node None None empty) mark mark

-- an empty node that has nothing but properties
abbrev pub properties_alone : Properties → RawEvent
properties_alone p = item_at (node p.anchor p.tag empty) p.from p.to

-- a node after its properties, if it has any, whose first token is from one mark to another
abbrev pub node_at : Option Properties → Shape → yaml_mark_t → yaml_mark_t → RawEvent
node_at None shape from to = item_at (node None None shape) from to
node_at (Some p) shape from to = item_at (node p.anchor p.tag shape) p.from to

-- a directive, which is no event
abbrev pub IsDirective : RawEventBody → Type 0
IsDirective (version_directive major minor) = Unit {0}
IsDirective (tag_directive handle prefix) = Unit {0}
IsDirective _ = ⊥
