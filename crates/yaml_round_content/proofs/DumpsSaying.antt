-- The events of a content that may be written say it.
use Rattle.std.proofs.Common.{◌≡◌, ◌==◌, ℕ, suc, Bool, true, false, ◌&&◌, List, [], ◌∷◌, length, Option, Some, refl, ap, ◌∙◌, codes, arith}
use Rattle.yaml_round_content.proofs.Words.{cases_Bool, nat_tests, slice_index, and-false, YAML_ANY_SEQUENCE_STYLE, YAML_ANY_MAPPING_STYLE, YAML_ANY_ENCODING, Event, EventBody, events, item_events, pair_events, is_lone_mark, contents, ScalarMark, Node, alias, scalar, sequence, mapping, Nodes, no_nodes, node, Pairs, no_pairs, pair, Document, scalar_says, node_says, items_say, pairs_say, documents_say, written_node, written_nodes, written_pairs, IsWritable, AreItemsWritable, ArePairsWritable, AreWritable, as_content, as_contents, as_pairs, content_events, told_by, ContentIsSaid, IsMark, unplaced}
use Rattle.yaml_parse_model.specs.Events as event

-- ---- a tag that isn't `!`

longer : (n : ℕ) → (suc (suc n) == 1) ≡ false
longer n = grind (arith, nat_tests)

other_mark : (t value : List ℕ) → (t ≡ codes "!" → ⊥) → is_lone_mark (Some t) value ≡ false
other_mark [] value h = let none : List ℕ = [] in ap (λ (b : Bool). b && slice_index none 0 == 33) (and-false (length value == 0))
other_mark (c ∷ []) value h = grind (arith, nat_tests, cases_Bool, and-false)
other_mark (c ∷ d ∷ more) value h = grind (arith, nat_tests, longer, and-false)

-- ---- nodes

scalar_said : (anchor : Option (List ℕ)) (mark : ScalarMark) (value : List ℕ) → IsMark mark
    → (rest : List Event)
    → contents (told_by (events (as_content (written_node (scalar anchor mark value))) rest))
    ≡ scalar_says anchor mark value ∷ contents (told_by rest)
scalar_said anchor mark value w rest = grind (arith, nat_tests, other_mark)

mutual
  unfolding node_says items_say pairs_say

  node_said : (n : Node) → IsWritable n → (rest : List Event)
      → contents (told_by (events (as_content (written_node n)) rest))
      ≡ node_says n (contents (told_by rest))
  node_said (alias name) w rest = refl
  node_said (scalar anchor mark value) w rest = scalar_said anchor mark value w.1 rest
  node_said (sequence anchor tag items) w rest =
      ap (λ (bs : List EventBody). event.sequence_start anchor tag true YAML_ANY_SEQUENCE_STYLE ∷ bs) (items_said items w.2 (unplaced event.sequence_end ∷ rest))
  node_said (mapping anchor tag pairs) w rest =
      ap (λ (bs : List EventBody). event.mapping_start anchor tag true YAML_ANY_MAPPING_STYLE ∷ bs) (pairs_said pairs w.2 (unplaced event.mapping_end ∷ rest))

  items_said : (ns : Nodes) → AreItemsWritable ns → (rest : List Event)
      → contents (told_by (item_events (as_contents (written_nodes ns)) rest))
      ≡ items_say ns (contents (told_by rest))
  items_said no_nodes w rest = refl
  items_said (node n ns) w rest =
      node_said n w.0 (item_events (as_contents (written_nodes ns)) rest) ∙ ap (λ (bs : List EventBody). node_says n bs) (items_said ns w.1 rest)

  pairs_said : (ps : Pairs) → ArePairsWritable ps → (rest : List Event)
      → contents (told_by (pair_events (as_pairs (written_pairs ps)) rest))
      ≡ pairs_say ps (contents (told_by rest))
  pairs_said no_pairs w rest = refl
  pairs_said (pair k v ps) w rest =
      node_said k w.0 (events (as_content (written_node v)) (pair_events (as_pairs (written_pairs ps)) rest))
      ∙ ap (λ (bs : List EventBody). node_says k bs) (node_said v w.1 (pair_events (as_pairs (written_pairs ps)) rest))
      ∙ ap (λ (bs : List EventBody). node_says k (node_says v bs)) (pairs_said ps w.2 rest)

-- ---- documents

documents_said : (c : List Document) → AreWritable c
    → contents (told_by (content_events c)) ≡ documents_say c
unfolding documents_say
documents_said [] w = refl
documents_said (d ∷ ds) w =
    ap (λ (bs : List EventBody). event.document_start d.version d.directives true ∷ bs) (node_said d.root w.0.root (unplaced (event.document_end true) ∷ content_events ds))
    ∙ ap (λ (bs : List EventBody). event.document_start d.version d.directives true ∷ node_says d.root (event.document_end true ∷ bs)) (documents_said ds w.1)

pub content_said : ContentIsSaid
content_said c w = ap (λ (bs : List EventBody). event.stream_start YAML_ANY_ENCODING ∷ bs) (documents_said c w)
