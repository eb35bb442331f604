-- What each half of reading back asks of a content's documents, from what may be written.
use Rattle.std.proofs.Common.{◌≡◌, inl, inr, ℕ, Bool, false, ◌&&◌, List, [], ◌∷◌, Option, Some, None, refl, sym, ap, ◌∙◌, codes, IsUtf8, bytes_eq}
use Rattle.yaml_round_content.proofs.ReadBackWords.{list_all, cases_Bool, bytes_eq-Decides, is_alpha_byte, TagDirective, Opening, opening_problem, ScalarMark, untagged, tagged, alias, scalar, sequence, mapping, written_scalar, written_node, written_nodes, written_pairs, written_document, written_documents, HaveUtf8, WrittenTagsAreReadable, IsNoMark, HasNoMark, HaveNoMark, PairsHaveNoMark, AreParsable, IsReadableTag, IsTagged, AreTagged, PairsAreTagged, HaveTexts, IsName, IsAnchor, IsTag, IsMark, IsWritable, AreItemsWritable, ArePairsWritable, HavePrefixes, AreWritable}
use Rattle.yaml_scan_laws.specs.scan_history.Written.{are_alphas}
use Rattle.yaml_round_content.specs.Said.{Node, Nodes, no_nodes, node, Pairs, no_pairs, pair, Document}
use Rattle.yaml_emit_laws.specs.Writable as text
use Rattle.yaml_round_content.specs.BytesLaws as bytes

-- ---- the text

-- A name of letters and digits, in the words of the emitter.
pub alphas_are : (bs : List ℕ) → list_all is_alpha_byte bs ≡ are_alphas bs
alphas_are [] = refl
alphas_are (b ∷ bs) = ap (λ (more : Bool). is_alpha_byte b && more) (alphas_are bs)

-- A name that may be written is one that is read back.
pub text_name : (name : List ℕ) → IsName name → text.IsWritableName name
text_name name (some, alphas) = (some, sym (alphas_are name) ∙ alphas)

-- An anchor that may be written is one that is read back.
pub text_anchor : (anchor : Option (List ℕ)) → IsAnchor anchor → text.IsWritableAnchor anchor
text_anchor None h = tt
text_anchor (Some name) h = text_name name h

-- A tag that may be written is one that is read back.
pub text_tag : (tag : Option (List ℕ)) → IsTag tag → text.IsWritableTag tag
text_tag None h = tt
text_tag (Some t) h = h

text_scalar : (anchor : Option (List ℕ)) (mark : ScalarMark) (value : List ℕ) → IsAnchor anchor
    → IsMark mark → IsUtf8 value → text.IsWritable (written_node (scalar anchor mark value))
text_scalar anchor (untagged plain) value a m v = (text_anchor anchor a, tt, v)
text_scalar anchor (tagged t) value a (m, other) v = (text_anchor anchor a, m, v)

mutual
  text_node : (n : Node) → IsWritable n → text.IsWritable (written_node n)
  text_node (alias name) h = text_name name h
  text_node (scalar anchor mark value) (a, m, v) = text_scalar anchor mark value a m v
  text_node (sequence anchor tag items) (a, t, h) = (text_anchor anchor a, text_tag tag t, text_items items h)
  text_node (mapping anchor tag pairs) (a, t, h) = (text_anchor anchor a, text_tag tag t, text_pairs pairs h)

  text_items : (ns : Nodes) → AreItemsWritable ns → text.AreItemsWritable (written_nodes ns)
  text_items no_nodes h = tt
  text_items (node n ns) (h, hs) = (text_node n h, text_items ns hs)

  text_pairs : (ps : Pairs) → ArePairsWritable ps → text.ArePairsWritable (written_pairs ps)
  text_pairs no_pairs h = tt
  text_pairs (pair k v ps) (hk, hv, hs) = (text_node k hk, text_node v hv, text_pairs ps hs)

-- They are in UTF-8.
pub have_utf8 : (ds : List TagDirective) → HavePrefixes ds → HaveUtf8 ds
have_utf8 [] h = tt
have_utf8 (d ∷ ds) (h, hs) = (h, have_utf8 ds hs)

pub are_writable : (c : List Document) → AreWritable c → text.AreWritable (written_documents c)
are_writable [] h = tt
are_writable (d ∷ ds) (h, hs) = ((h.opening, have_utf8 d.directives h.prefixes), text_node d.root h.root, are_writable ds hs)

-- ---- the bytes

-- An anchor that may be written is a name, or none.
pub bytes_anchor : (anchor : Option (List ℕ)) → IsAnchor anchor → bytes.IsNameOption anchor
bytes_anchor None h = tt
bytes_anchor (Some name) (some, alphas) = alphas

-- A tag that may be written is a text, or none.
pub bytes_tag : (tag : Option (List ℕ)) → IsTag tag → bytes.IsTextOption tag
bytes_tag None h = tt
bytes_tag (Some t) (some, utf8) = utf8

bytes_scalar : (anchor : Option (List ℕ)) (mark : ScalarMark) (value : List ℕ) → IsAnchor anchor
    → IsMark mark → IsUtf8 value → bytes.IsSpellable (written_node (scalar anchor mark value))
bytes_scalar anchor (untagged plain) value a m v = (bytes_anchor anchor a, tt, v)
bytes_scalar anchor (tagged t) value a ((some, utf8), other) v = (bytes_anchor anchor a, utf8, v)

-- A name that may be written is a name in bytes.
pub bytes_name : (name : List ℕ) → IsName name → bytes.IsName name
bytes_name name (some, alphas) = alphas

mutual
  bytes_node : (n : Node) → IsWritable n → bytes.IsSpellable (written_node n)
  bytes_node (alias name) h = bytes_name name h
  bytes_node (scalar anchor mark value) (a, m, v) = bytes_scalar anchor mark value a m v
  bytes_node (sequence anchor tag items) (a, t, h) = (bytes_anchor anchor a, bytes_tag tag t, bytes_items items h)
  bytes_node (mapping anchor tag pairs) (a, t, h) = (bytes_anchor anchor a, bytes_tag tag t, bytes_pairs pairs h)

  bytes_items : (ns : Nodes) → AreItemsWritable ns → bytes.AreSpellable (written_nodes ns)
  bytes_items no_nodes h = tt
  bytes_items (node n ns) (h, hs) = (bytes_node n h, bytes_items ns hs)

  bytes_pairs : (ps : Pairs) → ArePairsWritable ps → bytes.PairsAreSpellable (written_pairs ps)
  bytes_pairs no_pairs h = tt
  bytes_pairs (pair k v ps) (hk, hv, hs) = (bytes_node k hk, bytes_node v hv, bytes_pairs ps hs)

-- Directives that may be written have prefixes.
pub have_prefixes : (ds : List TagDirective) → HavePrefixes ds → bytes.HavePrefixes ds
have_prefixes [] h = tt
have_prefixes (d ∷ ds) (h, hs) = (h, have_prefixes ds hs)

pub are_spellable : (c : List Document) → AreWritable c
    → bytes.DocumentsAreSpellable (written_documents c)
are_spellable [] h = tt
are_spellable (d ∷ ds) (h, hs) = (h.opening, have_prefixes d.directives h.prefixes, bytes_node d.root h.root, are_spellable ds hs)

-- ---- the adapter

-- the directives may be written
pub record Opened (o : Opening) : Type 0 where
  pub right : opening_problem o ≡ None
  pub utf8 : HaveUtf8 o.directives

-- a tag that may be written is readable under the document's directives
pub readable_tag : WrittenTagsAreReadable → (o : Opening) → Opened o → (tag : Option (List ℕ))
    → IsTag tag → IsReadableTag o.directives tag
readable_tag law o h None t = tt
readable_tag law o h (Some t) (some, utf8) = law o h.right h.utf8 t utf8 some

tagged_scalar : WrittenTagsAreReadable → (o : Opening) → Opened o
    → (anchor : Option (List ℕ)) (mark : ScalarMark) (value : List ℕ) → IsMark mark
    → IsTagged o.directives (written_node (scalar anchor mark value))
tagged_scalar law o h anchor (untagged plain) value m = tt
tagged_scalar law o h anchor (tagged t) value (m, other) = readable_tag law o h (Some t) m

mutual
  tagged_node : WrittenTagsAreReadable → (o : Opening) → Opened o → (n : Node) → IsWritable n
      → IsTagged o.directives (written_node n)
  tagged_node law o h (alias name) w = tt
  tagged_node law o h (scalar anchor mark value) (a, m, v) = tagged_scalar law o h anchor mark value m
  tagged_node law o h (sequence anchor tag items) (a, t, w) = (readable_tag law o h tag t, tagged_items law o h items w)
  tagged_node law o h (mapping anchor tag pairs) (a, t, w) = (readable_tag law o h tag t, tagged_pairs law o h pairs w)

  tagged_items : WrittenTagsAreReadable → (o : Opening) → Opened o → (ns : Nodes)
      → AreItemsWritable ns → AreTagged o.directives (written_nodes ns)
  tagged_items law o h no_nodes w = tt
  tagged_items law o h (node n ns) (w, ws) = (tagged_node law o h n w, tagged_items law o h ns ws)

  tagged_pairs : WrittenTagsAreReadable → (o : Opening) → Opened o → (ps : Pairs)
      → ArePairsWritable ps → PairsAreTagged o.directives (written_pairs ps)
  tagged_pairs law o h no_pairs w = tt
  tagged_pairs law o h (pair k v ps) (wk, wv, ws) = (tagged_node law o h k wk, tagged_node law o h v wv, tagged_pairs law o h ps ws)

pub have_texts : WrittenTagsAreReadable → (c : List Document) → AreWritable c
    → HaveTexts (written_documents c)
have_texts law [] h = tt
have_texts law (d ∷ ds) (h, hs) =
    let utf8 = have_utf8 d.directives h.prefixes in
    let o = (written_document d).opening in
    (utf8, tagged_node law o (record { right = h.opening; utf8 = utf8 }) d.root h.root, have_texts law ds hs)

-- ---- the parser

-- What is no `!` differs from it.
pub not_bang : (t : List ℕ) → (t ≡ codes "!" → ⊥) → bytes_eq t (codes "!") ≡ false
not_bang t other =
    elim (cases_Bool (bytes_eq t (codes "!"))) [
      | inl h ↦ absurd (other ((bytes_eq-Decides t (codes "!")).0 h))
      | inr h ↦ h
    ]

fine_scalar : (anchor : Option (List ℕ)) (mark : ScalarMark) (value : List ℕ) → IsMark mark
    → IsNoMark (written_scalar anchor mark value).tag
fine_scalar anchor (untagged plain) value m = tt
fine_scalar anchor (tagged t) value (m, other) = not_bang t other

mutual
  fine_node : (n : Node) → IsWritable n → HasNoMark (written_node n)
  fine_node (alias name) h = tt
  fine_node (scalar anchor mark value) (a, m, v) = fine_scalar anchor mark value m
  fine_node (sequence anchor tag items) (a, t, h) = fine_items items h
  fine_node (mapping anchor tag pairs) (a, t, h) = fine_pairs pairs h

  fine_items : (ns : Nodes) → AreItemsWritable ns → HaveNoMark (written_nodes ns)
  fine_items no_nodes h = tt
  fine_items (node n ns) (h, hs) = (fine_node n h, fine_items ns hs)

  fine_pairs : (ps : Pairs) → ArePairsWritable ps → PairsHaveNoMark (written_pairs ps)
  fine_pairs no_pairs h = tt
  fine_pairs (pair k v ps) (hk, hv, hs) = (fine_node k hk, fine_node v hv, fine_pairs ps hs)

pub are_parsable : (c : List Document) → AreWritable c → AreParsable (written_documents c)
are_parsable [] h = tt
are_parsable (d ∷ ds) (h, hs) = ((h.opening, fine_node d.root h.root), are_parsable ds hs)
