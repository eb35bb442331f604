-- What a stream says: its documents as trees. Styles, marks and document marks are no part of it.
use Rattle.std.specs.Prelude.{◌≡◌, ℕ, Bool, true, false, List, [], ◌∷◌, Option, Some, None}
use Rattle.yaml_parse_model.specs.scan_model.declared.name.yaml_encoding_t.{yaml_encoding_t}
use Rattle.yaml_parse_model.specs.scan_model.declared.name.yaml_encoding_t.TheVariants.{YAML_ANY_ENCODING}
use Rattle.yaml_parse_model.specs.scan_model.declared.record.yaml_version_directive_t.{yaml_version_directive_t}
use Rattle.yaml_parse_model.specs.scan_model.declared.name.yaml_scalar_style_t.TheVariants.{YAML_ANY_SCALAR_STYLE}
use Rattle.yaml_parse_model.specs.scan_model.declared.name.yaml_sequence_style_t.TheVariants.{YAML_ANY_SEQUENCE_STYLE}
use Rattle.yaml_parse_model.specs.scan_model.declared.name.yaml_mapping_style_t.TheVariants.{YAML_ANY_MAPPING_STYLE}
use Rattle.yaml_parse_model.specs.Events.{EventBody, TagDirective}
use Rattle.yaml_parse_model.specs.Events as event
use Rattle.yaml_round_content.specs.Events.{contents}
use Rattle.yaml_round_content.specs.Input.{events_of, ending_of}

-- An untagged scalar counts as plain or not; of a tagged one nothing more is said.
pub data ScalarMark : Type 0 where
  untagged : Bool → ScalarMark
  tagged : List ℕ → ScalarMark

mutual
  pub data Node : Type 0 where
    alias : List ℕ → Node
    -- anchor, mark, value
    scalar : Option (List ℕ) → ScalarMark → List ℕ → Node
    -- anchor, tag, items
    sequence : Option (List ℕ) → Option (List ℕ) → Nodes → Node
    -- anchor, tag, pairs
    mapping : Option (List ℕ) → Option (List ℕ) → Pairs → Node

  pub data Nodes : Type 0 where
    no_nodes : Nodes
    node : Node → Nodes → Nodes

  pub data Pairs : Type 0 where
    no_pairs : Pairs
    pair : Node → Node → Pairs → Pairs

pub record Document : Type 0 where
  pub version : Option yaml_version_directive_t
  pub directives : List TagDirective
  pub root : Node

-- ---- what it says

abbrev pub scalar_says : Option (List ℕ) → ScalarMark → List ℕ → EventBody
scalar_says anchor (untagged plain) value = event.scalar anchor None value plain false
    YAML_ANY_SCALAR_STYLE
scalar_says anchor (tagged t) value = event.scalar anchor (Some t) value false false
    YAML_ANY_SCALAR_STYLE

-- the events of a node, and what follows
unfoldable mutual
  pub node_says : Node → List EventBody → List EventBody
  node_says (alias name) es = event.alias name ∷ es
  node_says (scalar anchor mark value) es = scalar_says anchor mark value ∷ es
  node_says (sequence anchor tag items) es = event.sequence_start anchor tag true
      YAML_ANY_SEQUENCE_STYLE ∷ items_say items (event.sequence_end ∷ es)
  node_says (mapping anchor tag pairs) es = event.mapping_start anchor tag true
      YAML_ANY_MAPPING_STYLE ∷ pairs_say pairs (event.mapping_end ∷ es)

  pub items_say : Nodes → List EventBody → List EventBody
  items_say no_nodes es = es
  items_say (node n ns) es = node_says n (items_say ns es)

  pub pairs_say : Pairs → List EventBody → List EventBody
  pairs_say no_pairs es = es
  pairs_say (pair k v ps) es = node_says k (node_says v (pairs_say ps es))

unfoldable pub documents_say : List Document → List EventBody
documents_say [] = event.stream_end ∷ []
documents_say (d ∷ ds) = event.document_start d.version d.directives true ∷ node_says d.root
    (event.document_end true ∷ documents_say ds)

abbrev pub stream_says : List Document → List EventBody
stream_says ds = event.stream_start YAML_ANY_ENCODING ∷ documents_say ds

-- The input is accepted, and says that.
pub record HasContent (from : yaml_encoding_t) (input : List ℕ) (c : List Document) : Type 0 where
  pub right : ending_of from input ≡ None
  pub says : contents (events_of from input) ≡ stream_says c
