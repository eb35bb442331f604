-- The events that are read of a content's canonical documents say the content.
use Rattle.std.proofs.Common.{◌≡◌, ℕ, Bool, true, false, not, List, [], ◌∷◌, map, Option, Some, refl, ap, ◌∙◌}
use Rattle.yaml_round_content.proofs.ReadBackWords.{YAML_DOUBLE_QUOTED_SCALAR_STYLE, YAML_ANY_SEQUENCE_STYLE, YAML_ANY_MAPPING_STYLE, YAML_ANY_ENCODING, EventBody, Told, contents, ScalarMark, untagged, tagged, alias, scalar, sequence, mapping, scalar_says, node_says, items_say, pairs_say, documents_say, written_scalar, written_node, written_nodes, written_pairs, written_documents, scalar_reads, node_reads, items_reads, pairs_reads, documents_reads, begins_directed, IsNoMark, HasNoMark, HaveNoMark, PairsHaveNoMark, AreParsable, parsed_of, CanonicalTokensSayContent}
use Rattle.yaml_parse_model.specs.Events as event
use Rattle.yaml_round_content.specs.Normalize.{normalize_scalar, normalize_body}
use Rattle.yaml_round_content.specs.Content.{content_of}
use Rattle.yaml_round_content.specs.Said.{Node, Nodes, no_nodes, node, Pairs, no_pairs, pair, Document}
use Rattle.yaml_round_content.proofs.ReadBackDocuments.{tokens_parsed}
use Rattle.yaml_round_content.proofs.Saying.{no_mark}

abbrev says : EventBody → EventBody
says b = content_of (normalize_body true b)

-- ---- scalars

scalar_said : (anchor : Option (List ℕ)) (mark : ScalarMark) (value : List ℕ)
    → IsNoMark (written_scalar anchor mark value).tag
    → says (scalar_reads anchor (written_scalar anchor mark value).tag value
    (written_scalar anchor mark value).quoted) ≡ scalar_says anchor mark value
scalar_said anchor (untagged true) value h = refl
scalar_said anchor (untagged false) value h = refl
scalar_said anchor (tagged t) value h =
    ap (λ (b : Bool). content_of (normalize_scalar b anchor (Some t) value false false YAML_DOUBLE_QUOTED_SCALAR_STYLE)) (no_mark t value h)

leaf_said : (anchor : Option (List ℕ)) (mark : ScalarMark) (value : List ℕ)
    → IsNoMark (written_scalar anchor mark value).tag
    → says (scalar_reads (written_scalar anchor mark value).anchor
    (written_scalar anchor mark value).tag (written_scalar anchor mark value).value
    (written_scalar anchor mark value).quoted) ≡ scalar_says anchor mark value
leaf_said anchor (untagged plain) value h = scalar_said anchor (untagged plain) value h
leaf_said anchor (tagged t) value h = scalar_said anchor (tagged t) value h

-- ---- nodes

mutual
  unfolding node_reads items_reads pairs_reads node_says items_say pairs_say

  node_said : (n : Node) → HasNoMark (written_node n) → (es : List EventBody)
      → map says (node_reads (written_node n) es) ≡ node_says n (map says es)
  node_said (alias name) h es = refl
  node_said (scalar anchor mark value) h es = ap (λ (b : EventBody). b ∷ map says es) (leaf_said anchor mark value h)
  node_said (sequence anchor tag items) h es = ap (λ (bs : List EventBody). event.sequence_start anchor tag true YAML_ANY_SEQUENCE_STYLE ∷ bs) (items_said items h (event.sequence_end ∷ es))
  node_said (mapping anchor tag pairs) h es = ap (λ (bs : List EventBody). event.mapping_start anchor tag true YAML_ANY_MAPPING_STYLE ∷ bs) (pairs_said pairs h (event.mapping_end ∷ es))

  items_said : (ns : Nodes) → HaveNoMark (written_nodes ns) → (es : List EventBody)
      → map says (items_reads (written_nodes ns) es) ≡ items_say ns (map says es)
  items_said no_nodes h es = refl
  items_said (node n ns) (h, hs) es = node_said n h (items_reads (written_nodes ns) es) ∙ ap (λ (bs : List EventBody). node_says n bs) (items_said ns hs es)

  pairs_said : (ps : Pairs) → PairsHaveNoMark (written_pairs ps) → (es : List EventBody)
      → map says (pairs_reads (written_pairs ps) es) ≡ pairs_say ps (map says es)
  pairs_said no_pairs h es = refl
  pairs_said (pair k v ps) (hk, hv, hs) es =
      node_said k hk (node_reads (written_node v) (pairs_reads (written_pairs ps) es))
      ∙ ap (λ (bs : List EventBody). node_says k bs) (node_said v hv (pairs_reads (written_pairs ps) es))
      ∙ ap (λ (bs : List EventBody). node_says k (node_says v bs)) (pairs_said ps hs es)

documents_said : (c : List Document) → AreParsable (written_documents c)
    → map says (documents_reads (written_documents c)) ≡ documents_say c
unfolding documents_reads documents_say
documents_said [] h = refl
documents_said (d ∷ ds) ((right, root), hs) =
    let end = event.document_end (not (begins_directed (written_documents ds))) in
    ap (λ (bs : List EventBody). event.document_start d.version d.directives true ∷ bs)
    (node_said d.root root (end ∷ documents_reads (written_documents ds)) ∙ ap (λ (bs : List EventBody). node_says d.root (event.document_end true ∷ bs)) (documents_said ds hs))

told_said : (es : List Told) → contents es ≡ map says (map (λ (g : Told). g.0.body) es)
told_said [] = refl
told_said (t ∷ ts) = ap (λ (bs : List EventBody). says t.0.body ∷ bs) (told_said ts)

pub tokens_say : CanonicalTokensSayContent
tokens_say x c fine ts e =
    let (events, ending) = tokens_parsed x (written_documents c) fine ts e in (
      told_said (parsed_of ts).events ∙ ap (λ (bs : List EventBody). map says bs) events ∙ ap (λ (bs : List EventBody). event.stream_start YAML_ANY_ENCODING ∷ bs) (documents_said c fine),
      ending,
    )
