-- After what is before a place the path is the place's.
use Rattle.std.proofs.Common.{◌≡◌, ◌∙◌, ℕ, suc, ◌+◌, List, [], ◌∷◌, length, Option, Some, true, refl, ap, arith}
use Rattle.yaml_scan_model.specs.declared.name.yaml_sequence_style_t.TheVariants.{YAML_ANY_SEQUENCE_STYLE}
use Rattle.yaml_scan_model.specs.declared.name.yaml_mapping_style_t.TheVariants.{YAML_ANY_MAPPING_STYLE}
use Rattle.yaml_parse.specs.Events.{EventBody}
use Rattle.yaml_parse.specs.Events as event
use Rattle.yaml_round_content.specs.Said.{ScalarMark, untagged, tagged, Node, alias, scalar, sequence, mapping, Nodes, no_nodes, node, Pairs, no_pairs, pair, Document, scalar_says, node_says, items_say, pairs_say}
use Rattle.yaml_round_engine.specs.Places.{Inside, at_root, at_item, at_key, at_value, StreamPosition, between, within, at_end, inside_says, whole_say, position_says, PathStep, item, key, value, Path, text_of_key, count_items, count_pairs, steps_to, path_to}
use Rattle.yaml_round_engine.specs.Walking.{past, past_node, start}

-- in a document of that number
abbrev at : ℕ → List PathStep → Path
at d ss = record { document = d; steps = ss }

scalar_walked : (anchor : Option (List ℕ)) (mark : ScalarMark) (text : List ℕ) (es : List EventBody)
    (d : ℕ) (ss : List PathStep)
    → past (scalar_says anchor mark text ∷ es) (at d ss) ≡ past es (at d (past_node (Some text) ss))
scalar_walked anchor (untagged plain) text es d ss = refl
scalar_walked anchor (tagged t) text es d ss = refl

one_on : (k n : ℕ) → suc k + n ≡ k + suc n
one_on k n = omega arith

nothing_on : (k : ℕ) → k ≡ k + 0
nothing_on k = omega arith

from_none : (n : ℕ) → 0 + n ≡ n
from_none n = omega arith

mutual
  unfolding node_says items_say pairs_say

  node_walked : (n : Node) (es : List EventBody) (d : ℕ) (ss : List PathStep)
      → past (node_says n es) (at d ss) ≡ past es (at d (past_node (text_of_key n) ss))
  node_walked (alias name) es d ss = refl
  node_walked (scalar anchor mark text) es d ss = scalar_walked anchor mark text es d ss
  node_walked (sequence anchor tag items) es d ss = items_walked items (event.sequence_end ∷ es) 0 d ss
  node_walked (mapping anchor tag pairs) es d ss = pairs_walked pairs (event.mapping_end ∷ es) 0 d ss

  items_walked : (ns : Nodes) (es : List EventBody) (k d : ℕ) (ss : List PathStep)
      → past (items_say ns es) (at d (item k ∷ ss))
      ≡ past es (at d (item (k + count_items ns) ∷ ss))
  items_walked no_nodes es k d ss = ap (λ (m : ℕ). past es (at d (item m ∷ ss))) (nothing_on k)
  items_walked (node n ns) es k d ss =
      node_walked n (items_say ns es) d (item k ∷ ss)
      ∙ items_walked ns es (suc k) d ss
      ∙ ap (λ (m : ℕ). past es (at d (item m ∷ ss))) (one_on k (count_items ns))

  pairs_walked : (ps : Pairs) (es : List EventBody) (k d : ℕ) (ss : List PathStep)
      → past (pairs_say ps es) (at d (key k ∷ ss)) ≡ past es (at d (key (k + count_pairs ps) ∷ ss))
  pairs_walked no_pairs es k d ss = ap (λ (m : ℕ). past es (at d (key m ∷ ss))) (nothing_on k)
  pairs_walked (pair n v ps) es k d ss =
      node_walked n (node_says v (pairs_say ps es)) d (key k ∷ ss)
      ∙ node_walked v (pairs_say ps es) d (value k (text_of_key n) ∷ ss)
      ∙ pairs_walked ps es (suc k) d ss
      ∙ ap (λ (m : ℕ). past es (at d (key m ∷ ss))) (one_on k (count_pairs ps))

inside_walked : (i : Inside) (es : List EventBody) (d : ℕ)
    → past (inside_says i es) (at d []) ≡ past es (at d (steps_to i))
inside_walked at_root es d = refl
inside_walked (at_item outer anchor tag items) es d =
    inside_walked outer (event.sequence_start anchor tag true YAML_ANY_SEQUENCE_STYLE ∷ items_say items es) d
    ∙ items_walked items es 0 d (steps_to outer)
    ∙ ap (λ (m : ℕ). past es (at d (item m ∷ steps_to outer))) (from_none (count_items items))
inside_walked (at_key outer anchor tag pairs) es d =
    inside_walked outer (event.mapping_start anchor tag true YAML_ANY_MAPPING_STYLE ∷ pairs_say pairs es) d
    ∙ pairs_walked pairs es 0 d (steps_to outer)
    ∙ ap (λ (m : ℕ). past es (at d (key m ∷ steps_to outer))) (from_none (count_pairs pairs))
inside_walked (at_value outer anchor tag pairs k) es d =
    inside_walked outer (event.mapping_start anchor tag true YAML_ANY_MAPPING_STYLE ∷ pairs_say pairs (node_says k es)) d
    ∙ pairs_walked pairs (node_says k es) 0 d (steps_to outer)
    ∙ ap (λ (m : ℕ). past (node_says k es) (at d (key m ∷ steps_to outer))) (from_none (count_pairs pairs))
    ∙ node_walked k es d (key (count_pairs pairs) ∷ steps_to outer)

whole_walked : (ds : List Document) (es : List EventBody) (k : ℕ)
    → past (whole_say ds es) (at k []) ≡ past es (at (k + length ds) [])
whole_walked [] es k = ap (λ (m : ℕ). past es (at m [])) (nothing_on k)
whole_walked (d ∷ ds) es k =
    node_walked d.root (event.document_end true ∷ whole_say ds es) k []
    ∙ whole_walked ds es (suc k)
    ∙ ap (λ (m : ℕ). past es (at m [])) (one_on k (length ds))

stream_walked : (ds : List Document) (es : List EventBody)
    → past (whole_say ds es) start ≡ past es (at (length ds) [])
stream_walked ds es = whole_walked ds es 0 ∙ ap (λ (m : ℕ). past es (at m [])) (from_none (length ds))

pub position_walked : (p : StreamPosition) → past (position_says p []) start ≡ path_to p
position_walked (between ds) = stream_walked ds []
position_walked (within ds version directives inside) =
    stream_walked ds (event.document_start version directives true ∷ inside_says inside [])
    ∙ inside_walked inside [] (length ds)
position_walked (at_end ds d) =
    stream_walked ds (event.document_start d.version d.directives true ∷ node_says d.root [])
    ∙ node_walked d.root [] (length ds) []
