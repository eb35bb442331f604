-- What reading back asks of a content's documents, from what may be written.
use Rattle.std.proofs.Common.{ℕ, Bool, false, List, [], ◌∷◌, Option, Some}
use Rattle.std.specs.Str.{IsUtf8}
use Rattle.yaml_emit_laws.specs.emit_layout.Content.{Opening}
use Rattle.yaml_round_content.specs.Said.{ScalarMark, untagged, tagged, Node, alias, scalar, sequence, mapping, Nodes, no_nodes, node, Pairs, no_pairs, pair, Document}
use Rattle.yaml_round_content.specs.Readable.{readable_scalar, readable_node, readable_nodes, readable_pairs, readable_document, is_unmarked, documents_from}
use Rattle.yaml_emit_laws.specs.TagsLaws.{WrittenTagsAreReadable}
use Rattle.yaml_emit_laws.specs.Writable as text
use Rattle.yaml_round_content.specs.BytesLaws as bytes
use Rattle.yaml_round_content.specs.TreeLaws.{IsNoMark, HasNoMark, HaveNoMark, PairsHaveNoMark, AreParsable}
use Rattle.yaml_round_content.specs.Adapting.{IsTagged, AreTagged, PairsAreTagged, HaveTexts}
use Rattle.yaml_round_content.specs.Writable.{IsAnchor, IsMark, IsWritable, AreItemsWritable, ArePairsWritable, AreWritable}
use Rattle.yaml_round_content.proofs.Premises.{not_bang, text_anchor, text_tag, have_utf8, bytes_anchor, bytes_tag, have_prefixes, text_name, bytes_name, readable_tag, Opened}

-- ---- the text

text_scalar : (b : Bool) → (anchor : Option (List ℕ)) (mark : ScalarMark) (value : List ℕ)
    → IsAnchor anchor → IsMark mark → IsUtf8 value
    → text.IsWritable (readable_node b (scalar anchor mark value))
text_scalar b anchor (untagged plain) value a m v = (text_anchor anchor a, tt, v)
text_scalar b anchor (tagged t) value a (m, other) v = (text_anchor anchor a, m, v)

mutual
  text_node : (b : Bool) (n : Node) → IsWritable n → text.IsWritable (readable_node b n)
  text_node b (alias name) h = text_name name h
  text_node b (scalar anchor mark value) (a, m, v) = text_scalar b anchor mark value a m v
  text_node b (sequence anchor tag items) (a, t, h) = (text_anchor anchor a, text_tag tag t, text_items items h)
  text_node b (mapping anchor tag pairs) (a, t, h) = (text_anchor anchor a, text_tag tag t, text_pairs pairs h)

  text_items : (ns : Nodes) → AreItemsWritable ns → text.AreItemsWritable (readable_nodes ns)
  text_items no_nodes h = tt
  text_items (node n ns) (h, hs) = (text_node false n h, text_items ns hs)

  text_pairs : (ps : Pairs) → ArePairsWritable ps → text.ArePairsWritable (readable_pairs ps)
  text_pairs no_pairs h = tt
  text_pairs (pair k v ps) (hk, hv, hs) = (text_node false k hk, text_node false v hv, text_pairs ps hs)

pub are_writable : (first : Bool) (c : List Document) → AreWritable c
    → text.AreWritable (documents_from first c)
are_writable first [] h = tt
are_writable first (d ∷ ds) (h, hs) = ((h.opening, have_utf8 d.directives h.prefixes), text_node (is_unmarked first d) d.root h.root, are_writable false ds hs)

-- ---- the bytes

bytes_scalar : (b : Bool) → (anchor : Option (List ℕ)) (mark : ScalarMark) (value : List ℕ)
    → IsAnchor anchor → IsMark mark → IsUtf8 value
    → bytes.IsSpellable (readable_node b (scalar anchor mark value))
bytes_scalar b anchor (untagged plain) value a m v = (bytes_anchor anchor a, tt, v)
bytes_scalar b anchor (tagged t) value a ((some, utf8), other) v = (bytes_anchor anchor a, utf8, v)

mutual
  bytes_node : (b : Bool) (n : Node) → IsWritable n → bytes.IsSpellable (readable_node b n)
  bytes_node b (alias name) h = bytes_name name h
  bytes_node b (scalar anchor mark value) (a, m, v) = bytes_scalar b anchor mark value a m v
  bytes_node b (sequence anchor tag items) (a, t, h) = (bytes_anchor anchor a, bytes_tag tag t, bytes_items items h)
  bytes_node b (mapping anchor tag pairs) (a, t, h) = (bytes_anchor anchor a, bytes_tag tag t, bytes_pairs pairs h)

  bytes_items : (ns : Nodes) → AreItemsWritable ns → bytes.AreSpellable (readable_nodes ns)
  bytes_items no_nodes h = tt
  bytes_items (node n ns) (h, hs) = (bytes_node false n h, bytes_items ns hs)

  bytes_pairs : (ps : Pairs) → ArePairsWritable ps → bytes.PairsAreSpellable (readable_pairs ps)
  bytes_pairs no_pairs h = tt
  bytes_pairs (pair k v ps) (hk, hv, hs) = (bytes_node false k hk, bytes_node false v hv, bytes_pairs ps hs)

pub are_spellable : (first : Bool) (c : List Document) → AreWritable c
    → bytes.DocumentsAreSpellable (documents_from first c)
are_spellable first [] h = tt
are_spellable first (d ∷ ds) (h, hs) = (h.opening, have_prefixes d.directives h.prefixes, bytes_node (is_unmarked first d) d.root h.root, are_spellable false ds hs)

-- ---- the adapter

tagged_scalar : (b : Bool) → WrittenTagsAreReadable → (o : Opening) → Opened o
    → (anchor : Option (List ℕ)) (mark : ScalarMark) (value : List ℕ) → IsMark mark
    → IsTagged o.directives (readable_node b (scalar anchor mark value))
tagged_scalar b law o h anchor (untagged plain) value m = tt
tagged_scalar b law o h anchor (tagged t) value (m, other) = readable_tag law o h (Some t) m

mutual
  tagged_node : (b : Bool) → WrittenTagsAreReadable → (o : Opening) → Opened o → (n : Node)
      → IsWritable n → IsTagged o.directives (readable_node b n)
  tagged_node b law o h (alias name) w = tt
  tagged_node b law o h (scalar anchor mark value) (a, m, v) = tagged_scalar b law o h anchor mark value m
  tagged_node b law o h (sequence anchor tag items) (a, t, w) = (readable_tag law o h tag t, tagged_items law o h items w)
  tagged_node b law o h (mapping anchor tag pairs) (a, t, w) = (readable_tag law o h tag t, tagged_pairs law o h pairs w)

  tagged_items : WrittenTagsAreReadable → (o : Opening) → Opened o → (ns : Nodes)
      → AreItemsWritable ns → AreTagged o.directives (readable_nodes ns)
  tagged_items law o h no_nodes w = tt
  tagged_items law o h (node n ns) (w, ws) = (tagged_node false law o h n w, tagged_items law o h ns ws)

  tagged_pairs : WrittenTagsAreReadable → (o : Opening) → Opened o → (ps : Pairs)
      → ArePairsWritable ps → PairsAreTagged o.directives (readable_pairs ps)
  tagged_pairs law o h no_pairs w = tt
  tagged_pairs law o h (pair k v ps) (wk, wv, ws) = (tagged_node false law o h k wk, tagged_node false law o h v wv, tagged_pairs law o h ps ws)

pub have_texts : WrittenTagsAreReadable → (first : Bool) (c : List Document) → AreWritable c
    → HaveTexts (documents_from first c)
have_texts law first [] h = tt
have_texts law first (d ∷ ds) (h, hs) =
    let utf8 = have_utf8 d.directives h.prefixes in
    let o = (readable_document first d).opening in
    (utf8, tagged_node (is_unmarked first d) law o (record { right = h.opening; utf8 = utf8 }) d.root h.root, have_texts law false ds hs)

-- ---- the parser

fine_scalar : (b : Bool) → (anchor : Option (List ℕ)) (mark : ScalarMark) (value : List ℕ)
    → IsMark mark
    → IsNoMark (readable_scalar b anchor mark value).tag
fine_scalar b anchor (untagged plain) value m = tt
fine_scalar b anchor (tagged t) value (m, other) = not_bang t other

mutual
  fine_node : (b : Bool) (n : Node) → IsWritable n → HasNoMark (readable_node b n)
  fine_node b (alias name) h = tt
  fine_node b (scalar anchor mark value) (a, m, v) = fine_scalar b anchor mark value m
  fine_node b (sequence anchor tag items) (a, t, h) = fine_items items h
  fine_node b (mapping anchor tag pairs) (a, t, h) = fine_pairs pairs h

  fine_items : (ns : Nodes) → AreItemsWritable ns → HaveNoMark (readable_nodes ns)
  fine_items no_nodes h = tt
  fine_items (node n ns) (h, hs) = (fine_node false n h, fine_items ns hs)

  fine_pairs : (ps : Pairs) → ArePairsWritable ps → PairsHaveNoMark (readable_pairs ps)
  fine_pairs no_pairs h = tt
  fine_pairs (pair k v ps) (hk, hv, hs) = (fine_node false k hk, fine_node false v hv, fine_pairs ps hs)

pub are_parsable : (first : Bool) (c : List Document) → AreWritable c
    → AreParsable (documents_from first c)
are_parsable first [] h = tt
are_parsable first (d ∷ ds) (h, hs) = ((h.opening, fine_node (is_unmarked first d) d.root h.root), are_parsable false ds hs)
