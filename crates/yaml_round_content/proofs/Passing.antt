-- The bodies of canonical documents spell texts.
use Rattle.std.proofs.Common.{◌≡◌, ℕ, Bool, true, false, not, ◌&&◌, List, [], ◌∷◌, Option, Some, None, refl, sym, ap, subst}
use Rattle.yaml_round_content.proofs.ReadBackWords.{is_utf8-from_IsUtf8, Token, TokenBody, Remaining, yaml_version_directive_t, TagDirective, Split, shorthand, verbatim, split_tag, Document, Scalar, Start, Node, alias_node, scalar_node, sequence_node, mapping_node, Nodes, no_nodes, node, Pairs, no_pairs, pair, is_directed, YAML_DOUBLE_QUOTED_SCALAR_STYLE, IsReadable, HaveUtf8, spells_text, cut, with_token, tag_body, anchor_bodies, tag_bodies, mark_bodies, node_bodies, items_bodies, pairs_bodies, version_bodies, directives_bodies, end_bodies, documents_bodies, token_bodies, IsReadableTag, IsTagged, AreTagged, PairsAreTagged, HaveTexts, without_fault, CanonicalTokensPass}
use Rattle.yaml_emit_laws.specs.scan_types.Tokens as token
use Rattle.yaml_emit_laws.specs.Canonical.{is_marked}

abbrev pub Spell : List TokenBody → Type 0
Spell [] = Unit {0}
Spell (b ∷ bs) = (spells_text b ≡ true) × Spell bs

pub split_spells : (s : Split) → IsReadable s → spells_text (tag_body s) ≡ true
split_spells (shorthand handle suffix) (shape, text, long) = is_utf8-from_IsUtf8 suffix text
split_spells (verbatim tag) (text, long) = is_utf8-from_IsUtf8 tag text

pub anchor_spells : (anchor : Option (List ℕ)) (bs : List TokenBody) → Spell bs
    → Spell (anchor_bodies anchor bs)
anchor_spells None bs s = s
anchor_spells (Some name) bs s = (refl, s)

pub tag_spells : (ds : List TagDirective) (tag : Option (List ℕ)) → IsReadableTag ds tag
    → (bs : List TokenBody) → Spell bs → Spell (tag_bodies ds tag bs)
tag_spells ds None r bs s = s
tag_spells ds (Some t) r bs s = (split_spells (split_tag ds t) r, s)

-- So does a document's `---`.
pub mark_spells : (b : Bool) (bs : List TokenBody) → Spell bs → Spell (mark_bodies b bs)
unfolding lib.Utf8.encode
mark_spells true bs s = (is_utf8-from_IsUtf8 (33 ∷ []) (33 ∷ [], (refl, refl)), s)
mark_spells false bs s = s

-- So does the end of a document.
pub end_spells : (b : Bool) (bs : List TokenBody) → Spell bs → Spell (end_bodies b bs)
end_spells true bs s = (refl, s)
end_spells false bs s = s

-- an anchor, a tag, and what follows
pub properties_spell : (ds : List TagDirective) (anchor tag : Option (List ℕ))
    → IsReadableTag ds tag
    → (bs : List TokenBody) → Spell bs → Spell (anchor_bodies anchor (tag_bodies ds tag bs))
properties_spell ds anchor tag r bs s = anchor_spells anchor (tag_bodies ds tag bs) (tag_spells ds tag r bs s)

scalar_spells : (ds : List TagDirective) (x : Scalar) → IsReadableTag ds x.tag
    → (bs : List TokenBody) → Spell bs → Spell (node_bodies ds (scalar_node x) bs)
unfolding node_bodies
scalar_spells ds x r bs s =
    let value : List TokenBody = token.scalar x.value YAML_DOUBLE_QUOTED_SCALAR_STYLE ∷ bs in
    properties_spell ds x.anchor x.tag r (mark_bodies (is_marked x) value) (mark_spells (is_marked x) value (refl, s))

sequence_spells : (ds : List TagDirective) (q : Start) (ns : Nodes) → IsReadableTag ds q.tag
    → (bs : List TokenBody) → Spell (items_bodies ds ns (token.flow_sequence_end ∷ bs))
    → Spell (node_bodies ds (sequence_node q ns) bs)
unfolding node_bodies
sequence_spells ds q ns r bs s = properties_spell ds q.anchor q.tag r (token.flow_sequence_start ∷ items_bodies ds ns (token.flow_sequence_end ∷ bs)) (refl, s)

mapping_spells : (ds : List TagDirective) (q : Start) (ps : Pairs) → IsReadableTag ds q.tag
    → (bs : List TokenBody) → Spell (pairs_bodies ds ps (token.flow_mapping_end ∷ bs))
    → Spell (node_bodies ds (mapping_node q ps) bs)
unfolding node_bodies
mapping_spells ds q ps r bs s = properties_spell ds q.anchor q.tag r (token.flow_mapping_start ∷ pairs_bodies ds ps (token.flow_mapping_end ∷ bs)) (refl, s)

mutual
  unfolding node_bodies items_bodies pairs_bodies

  node_spells : (ds : List TagDirective) (n : Node) → IsTagged ds n → (bs : List TokenBody)
      → Spell bs → Spell (node_bodies ds n bs)
  node_spells ds (alias_node name) r bs s = (refl, s)
  node_spells ds (scalar_node x) r bs s = scalar_spells ds x r bs s
  node_spells ds (sequence_node q items) (r, rs) bs s = sequence_spells ds q items r bs (items_spell ds items rs (token.flow_sequence_end ∷ bs) (refl, s))
  node_spells ds (mapping_node q pairs) (r, rs) bs s = mapping_spells ds q pairs r bs (pairs_spell ds pairs rs (token.flow_mapping_end ∷ bs) (refl, s))

  items_spell : (ds : List TagDirective) (ns : Nodes) → AreTagged ds ns → (bs : List TokenBody)
      → Spell bs → Spell (items_bodies ds ns bs)
  items_spell ds no_nodes r bs s = s
  items_spell ds (node x xs) (r, rs) bs s = node_spells ds x r (token.flow_entry ∷ items_bodies ds xs bs) (refl, items_spell ds xs rs bs s)

  pairs_spell : (ds : List TagDirective) (ps : Pairs) → PairsAreTagged ds ps → (bs : List TokenBody)
      → Spell bs → Spell (pairs_bodies ds ps bs)
  pairs_spell ds no_pairs r bs s = s
  pairs_spell ds (pair k v ps) (rk, rv, rs) bs s =
      let after : List TokenBody = token.flow_entry ∷ pairs_bodies ds ps bs in
      (refl, node_spells ds k rk (token.value ∷ node_bodies ds v after) (refl, node_spells ds v rv after (refl, pairs_spell ds ps rs bs s)))

-- So does its version.
pub version_spells : (v : Option yaml_version_directive_t) (bs : List TokenBody) → Spell bs
    → Spell (version_bodies v bs)
version_spells None bs s = s
version_spells (Some v) bs s = (refl, s)

-- Tag directives in UTF-8 spell, before what spells.
pub directives_spell : (ds : List TagDirective) → HaveUtf8 ds → (bs : List TokenBody) → Spell bs
    → Spell (directives_bodies ds bs)
unfolding directives_bodies
directives_spell [] u bs s = s
directives_spell (d ∷ ds) (u, us) bs s = (is_utf8-from_IsUtf8 d.prefix u, directives_spell ds us bs s)

documents_spell : (unended : Bool) (ds : List Document) → HaveTexts ds
    → Spell (documents_bodies unended ds)
unfolding documents_bodies
documents_spell unended [] r = (refl, tt)
documents_spell unended (d ∷ ds) (us, r, rs) =
    let o = d.opening in
    let after : List TokenBody = end_bodies (not d.implicit_end) (documents_bodies d.implicit_end ds) in
    let root : List TokenBody = token.document_start ∷ node_bodies o.directives d.root after in
    let said : Spell root = (refl, node_spells o.directives d.root r after (end_spells (not d.implicit_end) (documents_bodies d.implicit_end ds) (documents_spell d.implicit_end ds rs))) in
    end_spells (unended && is_directed o) (version_bodies o.version (directives_bodies o.directives root))
    (version_spells o.version (directives_bodies o.directives root) (directives_spell o.directives us root said))

-- Tokens whose kinds are spelled pass without a fault.
pub passes : (ts : List Token) → Spell (token_bodies ts) → cut None ts ≡ without_fault ts
passes [] s = refl
passes (t ∷ ts) (s, ss) = rw s (ap (λ (c : Remaining). with_token t c) (passes ts ss))

pub tokens_pass : CanonicalTokensPass
tokens_pass x ds r ts e = passes ts (subst Spell (sym e) (refl, documents_spell false ds r))
