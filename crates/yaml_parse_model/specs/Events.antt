-- Events, without where their texts lie in memory.
use Rattle.std.specs.Prelude.{ℕ, Bool, List, map, Option, Some, None, option_map, Vec}
use Rattle.std.specs.Global.{Global}
use Rattle.yaml_scan_model.specs.declared.name.yaml_encoding_t.{yaml_encoding_t}
use Rattle.yaml_scan_model.specs.declared.record.yaml_mark_t.{yaml_mark_t}
use Rattle.yaml_scan_model.specs.declared.name.yaml_scalar_style_t.{yaml_scalar_style_t}
use Rattle.yaml_scan_model.specs.declared.name.yaml_sequence_style_t.{yaml_sequence_style_t}
use Rattle.yaml_scan_model.specs.declared.name.yaml_mapping_style_t.{yaml_mapping_style_t}
use Rattle.yaml_scan_model.specs.declared.record.yaml_version_directive_t.{yaml_version_directive_t}
use Rattle.yaml_scan_model.specs.declared.record.yaml_tag_directive_t.{yaml_tag_directive_t}
use Rattle.yaml_scan_model.specs.declared.name.yaml_event_type_t.{yaml_event_type_t}
use Rattle.yaml_scan_model.specs.declared.name.yaml_event_type_t.TheVariants as kind
use Rattle.yaml_scan_model.specs.scan_types.Tokens.{zero_mark}
use Rattle.yaml_parse_model.specs.declared.event.yaml_event_body_t.{yaml_event_body_t}
use Rattle.yaml_parse_model.specs.declared.event.yaml_event_body_t.TheVariants as body
use Rattle.yaml_parse_model.specs.declared.event.yaml_event_t.{yaml_event_t}
use Rattle.yaml_parse_model.specs.declared.event_ref.EventRef.{EventRef}
use Rattle.yaml_parse_model.specs.declared.event_ref.EventRef.TheVariants as borrowed

-- a `%TAG` directive
pub record TagDirective : Type 0 where
  pub handle : List ℕ
  pub prefix : List ℕ

abbrev pub directive_of : yaml_tag_directive_t → TagDirective
directive_of d = record { handle = d.handle.items; prefix = d.prefix.items }

-- a text that may be left out
abbrev pub text_of : Option (Vec ℕ Global) → Option (List ℕ)
text_of None = None
text_of (Some t) = Some t.items

-- what an event is
pub data EventBody : Type 0 where
  no : EventBody
  stream_start : yaml_encoding_t → EventBody
  stream_end : EventBody
  -- version, directives, implicit
  document_start : Option yaml_version_directive_t → List TagDirective → Bool → EventBody
  document_end : Bool → EventBody
  alias : List ℕ → EventBody
  -- anchor, tag, value, plain-implicit, quoted-implicit, style
  scalar : Option (List ℕ) → Option (List ℕ) → List ℕ → Bool → Bool → yaml_scalar_style_t
      → EventBody
  -- anchor, tag, implicit, style
  sequence_start : Option (List ℕ) → Option (List ℕ) → Bool → yaml_sequence_style_t → EventBody
  sequence_end : EventBody
  mapping_start : Option (List ℕ) → Option (List ℕ) → Bool → yaml_mapping_style_t → EventBody
  mapping_end : EventBody

pub record Event : Type 0 where
  pub body : EventBody
  pub start_mark : yaml_mark_t
  pub end_mark : yaml_mark_t

abbrev pub body_of : yaml_event_body_t → EventBody
body_of body.No = no
body_of (body.StreamStart encoding) = stream_start encoding
body_of body.StreamEnd = stream_end
body_of (body.DocumentStart version directives implicit) = document_start version
    (map directive_of directives.items) implicit
body_of (body.DocumentEnd implicit) = document_end implicit
body_of (body.Alias anchor) = alias anchor.items
body_of (body.Scalar anchor tag value plain quoted style) = scalar (text_of anchor) (text_of tag)
    value.items plain quoted style
body_of (body.SequenceStart anchor tag implicit style) = sequence_start (text_of anchor)
    (text_of tag) implicit style
body_of body.SequenceEnd = sequence_end
body_of (body.MappingStart anchor tag implicit style) = mapping_start (text_of anchor) (text_of tag)
    implicit style
body_of body.MappingEnd = mapping_end

-- the body whose texts are borrowed
abbrev pub borrowed_body : EventRef → EventBody
borrowed_body borrowed.No = no
borrowed_body (borrowed.StreamStart encoding) = stream_start encoding
borrowed_body borrowed.StreamEnd = stream_end
borrowed_body (borrowed.DocumentStart version directives implicit) = document_start version
    (map directive_of directives.now) implicit
borrowed_body (borrowed.DocumentEnd implicit) = document_end implicit
borrowed_body (borrowed.Alias anchor) = alias anchor.now
borrowed_body (borrowed.Scalar anchor tag value plain quoted style) = scalar
    (option_map (λ t. t.now) anchor) (option_map (λ t. t.now) tag) value.now plain quoted style
borrowed_body (borrowed.SequenceStart anchor tag implicit style) = sequence_start
    (option_map (λ t. t.now) anchor) (option_map (λ t. t.now) tag) implicit style
borrowed_body borrowed.SequenceEnd = sequence_end
borrowed_body (borrowed.MappingStart anchor tag implicit style) = mapping_start
    (option_map (λ t. t.now) anchor) (option_map (λ t. t.now) tag) implicit style
borrowed_body borrowed.MappingEnd = mapping_end

-- a document's or a collection's start; in place of any other event the empty one
abbrev pub start_or_no : EventBody → EventBody
start_or_no (document_start version tags implicit) = document_start version tags implicit
start_or_no (sequence_start anchor tag implicit style) = sequence_start anchor tag implicit style
start_or_no (mapping_start anchor tag implicit style) = mapping_start anchor tag implicit style
start_or_no _ = no

abbrev pub event_of : yaml_event_t → Event
event_of e = record { body = body_of e.body; start_mark = e.start_mark; end_mark = e.end_mark }

-- the kind of an event
abbrev pub type_of : EventBody → yaml_event_type_t
type_of no = kind.YAML_NO_EVENT
type_of (stream_start _) = kind.YAML_STREAM_START_EVENT
type_of stream_end = kind.YAML_STREAM_END_EVENT
type_of (document_start _ _ _) = kind.YAML_DOCUMENT_START_EVENT
type_of (document_end _) = kind.YAML_DOCUMENT_END_EVENT
type_of (alias _) = kind.YAML_ALIAS_EVENT
type_of (scalar _ _ _ _ _ _) = kind.YAML_SCALAR_EVENT
type_of (sequence_start _ _ _ _) = kind.YAML_SEQUENCE_START_EVENT
type_of sequence_end = kind.YAML_SEQUENCE_END_EVENT
type_of (mapping_start _ _ _ _) = kind.YAML_MAPPING_START_EVENT
type_of mapping_end = kind.YAML_MAPPING_END_EVENT

-- an event of that body with zero marks
abbrev pub unplaced : EventBody → Event
unplaced b = record { body = b; start_mark = zero_mark; end_mark = zero_mark }

-- the empty event
abbrev pub no_event : Event
no_event = unplaced no
