-- What a stream says, and the events that say it.
use Rattle.std.specs.Prelude.{ℕ, Bool, true, false, List, [], ◌∷◌, Option}
use Rattle.yaml_scan_model.specs.declared.name.yaml_encoding_t.{yaml_encoding_t}
use Rattle.yaml_scan_model.specs.declared.name.yaml_scalar_style_t.{yaml_scalar_style_t}
use Rattle.yaml_scan_model.specs.declared.name.yaml_sequence_style_t.{yaml_sequence_style_t}
use Rattle.yaml_scan_model.specs.declared.name.yaml_sequence_style_t.TheVariants as sequence_style
use Rattle.yaml_scan_model.specs.declared.name.yaml_mapping_style_t.{yaml_mapping_style_t}
use Rattle.yaml_scan_model.specs.declared.name.yaml_mapping_style_t.TheVariants as mapping_style
use Rattle.yaml_scan_model.specs.declared.record.yaml_version_directive_t.{yaml_version_directive_t}
use Rattle.yaml_parse_model.specs.Events.{TagDirective, EventBody}
use Rattle.yaml_parse_model.specs.Events as model

-- a scalar; texts are bytes of UTF-8
pub record Scalar : Type 0 where
  pub anchor : Option (List ℕ)
  pub tag : Option (List ℕ)
  pub value : List ℕ
  pub plain : Bool
  pub quoted : Bool
  pub style : yaml_scalar_style_t

-- what opens a collection: whether its tag may be left out, and whether its style is flow
pub record Start : Type 0 where
  pub anchor : Option (List ℕ)
  pub tag : Option (List ℕ)
  pub implicit : Bool
  pub flow : Bool

mutual
  pub data Node : Type 0 where
    alias_node : List ℕ → Node
    scalar_node : Scalar → Node
    sequence_node : Start → Nodes → Node
    mapping_node : Start → Pairs → Node

  pub data Nodes : Type 0 where
    no_nodes : Nodes
    node : Node → Nodes → Nodes

  pub data Pairs : Type 0 where
    no_pairs : Pairs
    pair : Node → Node → Pairs → Pairs

-- what opens a document
pub record Opening : Type 0 where
  pub version : Option yaml_version_directive_t
  pub directives : List TagDirective
  pub implicit : Bool

pub record Document : Type 0 where
  pub opening : Opening
  pub root : Node
  pub implicit_end : Bool

-- an event, as far as it is laid out
pub data Event : Type 0 where
  no_event : Event
  stream_start : yaml_encoding_t → Event
  stream_end : Event
  document_start : Opening → Event
  document_end : Bool → Event
  alias : List ℕ → Event
  scalar : Scalar → Event
  sequence_start : Start → Event
  sequence_end : Event
  mapping_start : Start → Event
  mapping_end : Event

abbrev pub is_flow_sequence : yaml_sequence_style_t → Bool
is_flow_sequence sequence_style.YAML_FLOW_SEQUENCE_STYLE = true
is_flow_sequence sequence_style.YAML_ANY_SEQUENCE_STYLE = false
is_flow_sequence sequence_style.YAML_BLOCK_SEQUENCE_STYLE = false

abbrev pub is_flow_mapping : yaml_mapping_style_t → Bool
is_flow_mapping mapping_style.YAML_FLOW_MAPPING_STYLE = true
is_flow_mapping mapping_style.YAML_ANY_MAPPING_STYLE = false
is_flow_mapping mapping_style.YAML_BLOCK_MAPPING_STYLE = false

-- what an emitter sees of an event
abbrev pub emitter_event : EventBody → Event
emitter_event model.no = no_event
emitter_event (model.stream_start encoding) = stream_start encoding
emitter_event model.stream_end = stream_end
emitter_event (model.document_start version directives implicit) = document_start
    (record { version = version; directives = directives; implicit = implicit })
emitter_event (model.document_end implicit) = document_end implicit
emitter_event (model.alias name) = alias name
emitter_event (model.scalar anchor tag value plain quoted style) = scalar
    (record {
      anchor = anchor;
      tag = tag;
      value = value;
      plain = plain;
      quoted = quoted;
      style = style;
    })
emitter_event (model.sequence_start anchor tag implicit style) = sequence_start
    (record { anchor = anchor; tag = tag; implicit = implicit; flow = is_flow_sequence style })
emitter_event model.sequence_end = sequence_end
emitter_event (model.mapping_start anchor tag implicit style) = mapping_start
    (record { anchor = anchor; tag = tag; implicit = implicit; flow = is_flow_mapping style })
emitter_event model.mapping_end = mapping_end

-- the events of a node, and what follows
unfoldable mutual
  pub node_events : Node → List Event → List Event
  node_events (alias_node name) es = alias name ∷ es
  node_events (scalar_node x) es = scalar x ∷ es
  node_events (sequence_node p items) es = sequence_start p ∷ items_events items (sequence_end ∷ es)
  node_events (mapping_node p pairs) es = mapping_start p ∷ pairs_events pairs (mapping_end ∷ es)

  pub items_events : Nodes → List Event → List Event
  items_events no_nodes es = es
  items_events (node n ns) es = node_events n (items_events ns es)

  pub pairs_events : Pairs → List Event → List Event
  pairs_events no_pairs es = es
  pairs_events (pair k v ps) es = node_events k (node_events v (pairs_events ps es))

unfoldable pub documents_events : List Document → List Event
documents_events [] = stream_end ∷ []
documents_events (d ∷ ds) = document_start d.opening ∷ node_events d.root
    (document_end d.implicit_end ∷ documents_events ds)

-- the events of a stream
abbrev pub stream_events : yaml_encoding_t → List Document → List Event
stream_events encoding documents = stream_start encoding ∷ documents_events documents
