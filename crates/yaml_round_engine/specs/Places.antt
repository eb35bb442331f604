-- Places in a stream: what is before an event, and the path to it.
use Rattle.std.specs.Prelude.{ℕ, suc, true, List, [], ◌∷◌, length, Option, Some, None, map, reverse}
use Rattle.yaml_scan_model.specs.declared.name.yaml_encoding_t.TheVariants.{YAML_ANY_ENCODING}
use Rattle.yaml_scan_model.specs.declared.record.yaml_version_directive_t.{yaml_version_directive_t}
use Rattle.yaml_scan_model.specs.declared.name.yaml_sequence_style_t.TheVariants.{YAML_ANY_SEQUENCE_STYLE}
use Rattle.yaml_scan_model.specs.declared.name.yaml_mapping_style_t.TheVariants.{YAML_ANY_MAPPING_STYLE}
use Rattle.yaml_parse.specs.Events.{EventBody, TagDirective, text_of}
use Rattle.yaml_parse.specs.Events as event
use Rattle.yaml_round_content.specs.Said.{Node, scalar, Nodes, no_nodes, node, Pairs, no_pairs, pair, Document, node_says, items_say, pairs_say}
use Rattle.yaml_round_engine.specs.declared.difference.yaml_step_t.{yaml_step_t}
use Rattle.yaml_round_engine.specs.declared.difference.yaml_step_t.TheVariants as declared
use Rattle.yaml_round_engine.specs.declared.difference.yaml_difference_t.{yaml_difference_t}

-- Where in a document: at its root; in an open sequence, after whole items; in an open mapping, at a key after whole pairs,
-- or at the value after them and that key. A collection has an anchor and a tag.
pub data Inside : Type 0 where
  at_root : Inside
  at_item : Inside → Option (List ℕ) → Option (List ℕ) → Nodes → Inside
  at_key : Inside → Option (List ℕ) → Option (List ℕ) → Pairs → Inside
  at_value : Inside → Option (List ℕ) → Option (List ℕ) → Pairs → Node → Inside

-- Where in a stream, after whole documents: between two or at the end; inside one with that version and those
-- directives; or after the root of one, at its end.
pub data StreamPosition : Type 0 where
  between : List Document → StreamPosition
  within : List Document → Option yaml_version_directive_t → List TagDirective → Inside
      → StreamPosition
  at_end : List Document → Document → StreamPosition

-- ---- what is before the place

-- what is before, inside the document, and then that
abbrev pub inside_says : Inside → List EventBody → List EventBody
inside_says at_root es = es
inside_says (at_item outer anchor tag items) es = inside_says outer
    (event.sequence_start anchor tag true YAML_ANY_SEQUENCE_STYLE ∷ items_say items es)
inside_says (at_key outer anchor tag pairs) es = inside_says outer
    (event.mapping_start anchor tag true YAML_ANY_MAPPING_STYLE ∷ pairs_say pairs es)
inside_says (at_value outer anchor tag pairs k) es = inside_says outer
    (event.mapping_start anchor tag true YAML_ANY_MAPPING_STYLE ∷ pairs_say pairs (node_says k es))

abbrev pub whole_say : List Document → List EventBody → List EventBody
whole_say [] es = es
whole_say (d ∷ ds) es = event.document_start d.version d.directives true ∷ node_says d.root
    (event.document_end true ∷ whole_say ds es)

-- all that is before, and then that
abbrev pub position_says : StreamPosition → List EventBody → List EventBody
position_says (between ds) es = event.stream_start YAML_ANY_ENCODING ∷ whole_say ds es
position_says (within ds version directives inside) es = event.stream_start YAML_ANY_ENCODING
    ∷ whole_say ds (event.document_start version directives true ∷ inside_says inside es)
position_says (at_end ds d) es = event.stream_start YAML_ANY_ENCODING
    ∷ whole_say ds (event.document_start d.version d.directives true ∷ node_says d.root es)

-- ---- the path

-- A step into an open collection: an item of a sequence, the key of a mapping's pair, or a pair's value, with
-- the text of its key where that is a scalar. All count from 0.
pub data PathStep : Type 0 where
  item : ℕ → PathStep
  key : ℕ → PathStep
  value : ℕ → Option (List ℕ) → PathStep

-- that many documents have ended, and steps in the one that is open, the innermost first
pub record Path : Type 0 where
  pub document : ℕ
  pub steps : List PathStep

abbrev pub text_of_key : Node → Option (List ℕ)
text_of_key (scalar anchor mark text) = Some text
text_of_key other = None

abbrev pub count_items : Nodes → ℕ
count_items no_nodes = 0
count_items (node n ns) = suc (count_items ns)

abbrev pub count_pairs : Pairs → ℕ
count_pairs no_pairs = 0
count_pairs (pair k v ps) = suc (count_pairs ps)

abbrev pub steps_to : Inside → List PathStep
steps_to at_root = []
steps_to (at_item outer anchor tag items) = item (count_items items) ∷ steps_to outer
steps_to (at_key outer anchor tag pairs) = key (count_pairs pairs) ∷ steps_to outer
steps_to (at_value outer anchor tag pairs k) = value (count_pairs pairs) (text_of_key k)
    ∷ steps_to outer

abbrev pub path_to : StreamPosition → Path
path_to (between ds) = record { document = length ds; steps = [] }
path_to (within ds version directives inside) = record
    { document = length ds; steps = steps_to inside }
path_to (at_end ds d) = record { document = length ds; steps = [] }

-- ---- what a difference says

abbrev pub step_of : yaml_step_t → PathStep
step_of (declared.Item number) = item number
step_of (declared.Key number) = key number
step_of (declared.Value number text) = value number (text_of text)

-- the innermost first
abbrev pub steps_of : List yaml_step_t → List PathStep
steps_of ss = reverse (map step_of ss)

abbrev pub path_of : yaml_difference_t → Path
path_of d = record { document = d.document; steps = steps_of d.path.items }
