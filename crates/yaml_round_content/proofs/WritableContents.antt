-- The content of an input may be written.
use Rattle.std.proofs.Common.{ℕ, true, List, [], ◌∷◌, Option, subst}
use Rattle.yaml_round_content.proofs.Words.{EventBody, events_of, ScalarMark, untagged, tagged, Node, alias, scalar, sequence, mapping, Nodes, no_nodes, node, Pairs, no_pairs, pair, Document, scalar_says, node_says, items_say, pairs_say, documents_say, IsWritable, AreItemsWritable, ArePairsWritable, AreWritable, InputsAreWritable}
use Rattle.yaml_parse_model.specs.Events as event
use Rattle.yaml_round_content.proofs.ContentInputs.{input_stream}
use Rattle.yaml_round_content.proofs.Scalars.{input_right}
use Rattle.yaml_round_content.proofs.Utf8.{input_utf8}
use Rattle.yaml_round_content.proofs.Events.{MaySay, MaySayAll, told_say}

scalar_writable : (anchor : Option (List ℕ)) (mark : ScalarMark) (value : List ℕ)
    → MaySay (scalar_says anchor mark value) → IsWritable (scalar anchor mark value)
scalar_writable anchor (untagged plain) value h = h
scalar_writable anchor (tagged t) value h = h

mutual
  unfolding node_says items_say pairs_say

  node_writable : (n : Node) (es : List EventBody) → MaySayAll (node_says n es)
      → IsWritable n × MaySayAll es
  node_writable (alias name) es h = h
  node_writable (scalar anchor mark value) es h = (scalar_writable anchor mark value h.0, h.1)
  node_writable (sequence anchor tag items) es h =
      let (own, rest) = items_writable items (event.sequence_end ∷ es) h.1 in
      ((h.0.0, h.0.1, own), rest.1)
  node_writable (mapping anchor tag pairs) es h =
      let (own, rest) = pairs_writable pairs (event.mapping_end ∷ es) h.1 in
      ((h.0.0, h.0.1, own), rest.1)

  items_writable : (ns : Nodes) (es : List EventBody) → MaySayAll (items_say ns es)
      → AreItemsWritable ns × MaySayAll es
  items_writable no_nodes es h = (tt, h)
  items_writable (node n ns) es h =
      let (own, rest) = node_writable n (items_say ns es) h in
      let (others, more) = items_writable ns es rest in
      ((own, others), more)

  pairs_writable : (ps : Pairs) (es : List EventBody) → MaySayAll (pairs_say ps es)
      → ArePairsWritable ps × MaySayAll es
  pairs_writable no_pairs es h = (tt, h)
  pairs_writable (pair k v ps) es h =
      let (key, rest) = node_writable k (node_says v (pairs_say ps es)) h in
      let (value, more) = node_writable v (pairs_say ps es) rest in
      let (others, last) = pairs_writable ps es more in
      ((key, value, others), last)

documents_writable : (c : List Document) → MaySayAll (documents_say c) → AreWritable c
unfolding documents_say
documents_writable [] h = tt
documents_writable (d ∷ ds) h =
    let (root, rest) = node_writable d.root (event.document_end true ∷ documents_say ds) h.1 in
    (record { opening = h.0.0; prefixes = h.0.1; root = root }, documents_writable ds rest.1)

pub are_writable : InputsAreWritable
are_writable from input c has =
    let es = events_of from input in
    documents_writable c (subst MaySayAll has.says (told_say es (input_stream from input true has.right).right (input_utf8 from input) (input_right from input))).1
