-- No stream says a front of what another says: its end is before nothing.
use Rattle.std.proofs.Common.{◌≡◌, ◌∙◌, ℕ, suc, List, [], ◌∷◌, ◌++◌, Option, true, refl, sym, ap}
use Rattle.yaml_scan_model.specs.declared.name.yaml_encoding_t.TheVariants.{YAML_ANY_ENCODING}
use Rattle.yaml_parse.specs.Events.{EventBody}
use Rattle.yaml_parse.specs.Events as event
use Rattle.yaml_round_content.specs.Said.{ScalarMark, untagged, tagged, Node, alias, scalar, sequence, mapping, Nodes, no_nodes, node, Pairs, no_pairs, pair, Document, scalar_says, node_says, items_say, pairs_say, documents_say, stream_says}
use Rattle.yaml_round_engine.specs.Places.{Inside, at_root, at_item, at_key, at_value, StreamPosition, between, within, at_end, inside_says, whole_say, position_says}
use Rattle.yaml_round_engine.proofs.Placing.{placed}

-- how many ends of a stream there are
abbrev ends : List EventBody → ℕ
ends [] = 0
ends (event.stream_end ∷ es) = suc (ends es)
ends (e ∷ es) = ends es

scalar_ends : (anchor : Option (List ℕ)) (mark : ScalarMark) (text : List ℕ) (es : List EventBody)
    → ends (scalar_says anchor mark text ∷ es) ≡ ends es
scalar_ends anchor (untagged plain) text es = refl
scalar_ends anchor (tagged t) text es = refl

mutual
  unfolding node_says items_say pairs_say

  node_ends : (n : Node) (es : List EventBody) → ends (node_says n es) ≡ ends es
  node_ends (alias name) es = refl
  node_ends (scalar anchor mark text) es = scalar_ends anchor mark text es
  node_ends (sequence anchor tag items) es = items_end items (event.sequence_end ∷ es)
  node_ends (mapping anchor tag pairs) es = pairs_end pairs (event.mapping_end ∷ es)

  items_end : (ns : Nodes) (es : List EventBody) → ends (items_say ns es) ≡ ends es
  items_end no_nodes es = refl
  items_end (node n ns) es = node_ends n (items_say ns es) ∙ items_end ns es

  pairs_end : (ps : Pairs) (es : List EventBody) → ends (pairs_say ps es) ≡ ends es
  pairs_end no_pairs es = refl
  pairs_end (pair k v ps) es = node_ends k (node_says v (pairs_say ps es)) ∙ node_ends v (pairs_say ps es) ∙ pairs_end ps es

inside_ends : (i : Inside) (es : List EventBody) → ends (inside_says i es) ≡ ends es
inside_ends at_root es = refl
inside_ends (at_item outer anchor tag items) es = inside_ends outer _ ∙ items_end items es
inside_ends (at_key outer anchor tag pairs) es = inside_ends outer _ ∙ pairs_end pairs es
inside_ends (at_value outer anchor tag pairs k) es = inside_ends outer _ ∙ pairs_end pairs (node_says k es) ∙ node_ends k es

whole_ends : (ds : List Document) (es : List EventBody) → ends (whole_say ds es) ≡ ends es
whole_ends [] es = refl
whole_ends (d ∷ ds) es = node_ends d.root (event.document_end true ∷ whole_say ds es) ∙ whole_ends ds es

position_ends : (p : StreamPosition) → ends (position_says p []) ≡ 0
position_ends (between ds) = whole_ends ds []
position_ends (within ds version directives inside) = whole_ends ds _ ∙ inside_ends inside []
position_ends (at_end ds d) = whole_ends ds _ ∙ node_ends d.root []

documents_end : (ds : List Document) → ends (documents_say ds) ≡ 1
unfolding documents_say
documents_end [] = refl
documents_end (d ∷ ds) = node_ends d.root (event.document_end true ∷ documents_say ds) ∙ documents_end ds

one_and_none : (n : ℕ) → n ≡ 1 → n ≡ 0 → ⊥
one_and_none n e z = absurd (cc)

pub whole_stream : (c d : List Document) (t : List EventBody) → stream_says c ++ t ≡ stream_says d
    → t ≡ []
whole_stream c d [] e = refl
whole_stream c d (g ∷ gs) e =
    let p = placed d (event.stream_start YAML_ANY_ENCODING) (documents_say c) g gs (sym e) in
    absurd (one_and_none (ends (stream_says c)) (documents_end c) (ap (λ (x : List EventBody). ends x) p.1 ∙ position_ends p.0))
