-- The events of a content's documents say the content, and their flags are as a reader gives them.
use Rattle.std.proofs.lemmas.Bool.Decides.{nat_tests}
use Rattle.std.proofs.Common.{◌≡◌, Bool, true, false, List, [], ◌∷◌, map, Option, refl, ap, ◌∙◌, arith}
use Rattle.yaml_parse_model.specs.declared.yaml_encoding_t.{yaml_encoding_t}
use Rattle.yaml_parse_model.specs.declared.yaml_encoding_t.TheVariants.{YAML_ANY_ENCODING}
use Rattle.yaml_parse_model.specs.declared.yaml_sequence_style_t.TheVariants.{YAML_ANY_SEQUENCE_STYLE}
use Rattle.yaml_parse_model.specs.declared.yaml_mapping_style_t.TheVariants.{YAML_ANY_MAPPING_STYLE}
use Rattle.yaml_parse_model.specs.Events.{EventBody}
use Rattle.yaml_parse_model.specs.Events as event
use Rattle.yaml_emit_laws.specs.emit_layout.Content as emit
use Rattle.yaml_round_content.specs.Said.{ScalarMark, Node, alias, scalar, sequence, mapping, Nodes, no_nodes, node, Pairs, no_pairs, pair, Document, scalar_says, node_says, items_say, pairs_say, documents_say, stream_says}
use Rattle.yaml_round_content.specs.Flags.{HasScalarFlags, HasFlags, HaveFlags, PairsHaveFlags, HaveReaderFlags}
use Rattle.yaml_round_content.proofs.Contents.{says}
use Rattle.yaml_round_content.specs.Readable.{readable_scalar, readable_node, readable_nodes, readable_pairs, is_unmarked, documents_from, readable_documents}

-- ---- flags

scalar_flags : (b : Bool) (anchor : Option (List _)) (mark : ScalarMark) (value : List _)
    → HasScalarFlags (readable_scalar b anchor mark value).tag
    (readable_scalar b anchor mark value).plain (readable_scalar b anchor mark value).quoted
scalar_flags b anchor mark value = grind (arith, nat_tests)

mutual
  node_flags : (b : Bool) (n : Node) → HasFlags (readable_node b n)
  node_flags b (alias name) = tt
  node_flags b (scalar anchor mark value) = scalar_flags b anchor mark value
  node_flags b (sequence anchor tag items) = (refl, items_flags items)
  node_flags b (mapping anchor tag pairs) = (refl, pairs_flags pairs)

  items_flags : (ns : Nodes) → HaveFlags (readable_nodes ns)
  items_flags no_nodes = tt
  items_flags (node n ns) = (node_flags false n, items_flags ns)

  pairs_flags : (ps : Pairs) → PairsHaveFlags (readable_pairs ps)
  pairs_flags no_pairs = tt
  pairs_flags (pair k v ps) = (node_flags false k, node_flags false v, pairs_flags ps)

pub have_flags : (first : Bool) (c : List Document) → HaveReaderFlags (documents_from first c)
have_flags first [] = tt
have_flags first (d ∷ ds) = (node_flags (is_unmarked first d) d.root, have_flags false ds)

-- ---- what they say

scalar_said : (b : Bool) (anchor : Option (List _)) (mark : ScalarMark) (value : List _)
    → says (emit.scalar (readable_scalar b anchor mark value)) ≡ scalar_says anchor mark value
scalar_said b anchor mark value = grind (arith, nat_tests)

mutual
  unfolding node_says items_say pairs_say emit.node_events emit.items_events emit.pairs_events

  node_said : (b : Bool) (n : Node) (fs : List emit.Event)
      → map says (emit.node_events (readable_node b n) fs) ≡ node_says n (map says fs)
  node_said b (alias name) fs = refl
  node_said b (scalar anchor mark value) fs = ap (λ (e : EventBody). e ∷ map says fs) (scalar_said b anchor mark value)
  node_said b (sequence anchor tag items) fs = ap (λ (es : List EventBody). event.sequence_start anchor tag true YAML_ANY_SEQUENCE_STYLE ∷ es) (items_said items (emit.sequence_end ∷ fs))
  node_said b (mapping anchor tag pairs) fs = ap (λ (es : List EventBody). event.mapping_start anchor tag true YAML_ANY_MAPPING_STYLE ∷ es) (pairs_said pairs (emit.mapping_end ∷ fs))

  items_said : (ns : Nodes) (fs : List emit.Event)
      → map says (emit.items_events (readable_nodes ns) fs) ≡ items_say ns (map says fs)
  items_said no_nodes fs = refl
  items_said (node n ns) fs = node_said false n (emit.items_events (readable_nodes ns) fs) ∙ ap (λ (es : List EventBody). node_says n es) (items_said ns fs)

  pairs_said : (ps : Pairs) (fs : List emit.Event)
      → map says (emit.pairs_events (readable_pairs ps) fs) ≡ pairs_say ps (map says fs)
  pairs_said no_pairs fs = refl
  pairs_said (pair k v ps) fs =
      node_said false k (emit.node_events (readable_node false v) (emit.pairs_events (readable_pairs ps) fs))
      ∙ ap (λ (es : List EventBody). node_says k es) (node_said false v (emit.pairs_events (readable_pairs ps) fs))
      ∙ ap (λ (es : List EventBody). node_says k (node_says v es)) (pairs_said ps fs)

documents_said : (first : Bool) (c : List Document)
    → map says (emit.documents_events (documents_from first c)) ≡ documents_say c
unfolding documents_say emit.documents_events
documents_said first [] = refl
documents_said first (d ∷ ds) =
    ap (λ (es : List EventBody). event.document_start d.version d.directives true ∷ es)
    (node_said (is_unmarked first d) d.root (emit.document_end true ∷ emit.documents_events (documents_from false ds)) ∙ ap (λ (es : List EventBody). node_says d.root (event.document_end true ∷ es)) (documents_said false ds))

pub stream_said : (x : yaml_encoding_t) (c : List Document)
    → map says (emit.stream_events x (readable_documents c)) ≡ stream_says c
stream_said x c = ap (λ (es : List EventBody). event.stream_start YAML_ANY_ENCODING ∷ es) (documents_said true c)
