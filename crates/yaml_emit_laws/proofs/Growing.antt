-- Canonical words are key-free.
use Rattle.std.proofs.Common.{◌≡◌, ℕ, Bool, true, false, not, ◌&&◌, List, [], ◌∷◌, map, reverse, Option, None, refl, ap, ◌∙◌, arith}
use Rattle.yaml_emit_laws.proofs.Shared.{nat_tests, list_all, Kind, is_end, SpelledText, offline, yaml_version_directive_t, TagDirective, Word, WordsStand, word_kinds, token_of, first_token, ReachEnd, Scalar, Node, alias_node, scalar_node, sequence_node, mapping_node, Nodes, no_nodes, node, Pairs, no_pairs, pair, Opening, Document, has, scalar_tag, start_tag, is_directed, put_if, properties_kinds, node_kinds, items_kinds, pairs_kinds, version_kinds, directives_kinds, opening_kinds, documents_kinds, stream_kinds}
use Rattle.yaml_scan_history.specs.declared.kind.Kind.TheVariants as kinds
use Rattle.yaml_scan_laws.specs.KeyFree.{asked_after, asked, fits, is_key_free}
use Rattle.yaml_scan_laws.proofs.TextLemmas.{words_read}
use Rattle.yaml_emit_laws.specs.Canonical.{is_marked}

abbrev GoOn : List Kind → Type 0
GoOn ks = list_all (λ (k : Kind). not (is_end k)) ks ≡ true

-- What words leave, where those before left so much open: the list stays key-free, and without end.
record Grows (old now : List Bool) (ks ms : List Kind) : Type 0 where
  pub free : asked ks ≡ old → is_key_free ks ≡ true → is_key_free ms ≡ true
  pub at : asked ks ≡ old → asked ms ≡ now
  pub on : GoOn ks → GoOn ms

both : (a b c : List Bool) (ks ls ms : List Kind) → Grows a b ks ls → Grows b c ls ms
    → Grows a c ks ms
both a b c ks ls ms g h = grind arith

nothing : (a : List Bool) (ks : List Kind) → Grows a a ks ks
nothing a ks = record { free = λ e f. f; at = λ e. e; on = λ x. x }

one : (k : Kind) (a : List Bool) (ks : List Kind) → fits k a ≡ true → not (is_end k) ≡ true
    → Grows a (asked_after k a) ks (k ∷ ks)
unfolding asked is_key_free
one k a ks fit more = grind arith

tag_if : (b : Bool) (a : List Bool) (ks : List Kind) → Grows a a ks (put_if b kinds.Tag ks)
tag_if true a ks = one kinds.Tag a ks refl refl
tag_if false a ks = nothing a ks

anchor_if : (b : Bool) (a : List Bool) (ks : List Kind) → Grows a a ks (put_if b kinds.Anchor ks)
anchor_if true a ks = one kinds.Anchor a ks refl refl
anchor_if false a ks = nothing a ks

properties_grow : (anchor tag : Option (List ℕ)) (a : List Bool) (ks : List Kind)
    → Grows a a ks (properties_kinds anchor tag ks)
properties_grow anchor tag a ks =
    both a a a ks (put_if (has anchor) kinds.Anchor ks) _ (anchor_if (has anchor) a ks) (tag_if (has tag) a (put_if (has anchor) kinds.Anchor ks))

scalar_grows : (x : Scalar) (a : List Bool) (ks : List Kind)
    → Grows a a ks (kinds.DoubleQuoted
    ∷ put_if (is_marked x) kinds.Tag (properties_kinds x.anchor (scalar_tag true x) ks))
scalar_grows x a ks =
    let front = properties_kinds x.anchor (scalar_tag true x) ks in
    let marked = put_if (is_marked x) kinds.Tag front in
    both a a a ks marked (kinds.DoubleQuoted ∷ marked) (both a a a ks front marked (properties_grow x.anchor (scalar_tag true x) a ks) (tag_if (is_marked x) a front))
    (one kinds.DoubleQuoted a marked refl refl)

mutual
  unfolding node_kinds items_kinds pairs_kinds

  node_grows : (n : Node) (a : List Bool) (ks : List Kind) → Grows a a ks (node_kinds n ks)
  node_grows (alias_node name) a ks = one kinds.Alias a ks refl refl
  node_grows (scalar_node x) a ks = scalar_grows x a ks
  node_grows (sequence_node q items) a ks =
      let front = properties_kinds q.anchor (start_tag true q) ks in
      let opened = kinds.FlowSequenceStart ∷ front in
      let filled = items_kinds items opened in
      both a (false ∷ a) a ks filled (kinds.FlowSequenceEnd ∷ filled)
      (both a (false ∷ a) (false ∷ a) ks opened filled
      (both a a (false ∷ a) ks front opened (properties_grow q.anchor (start_tag true q) a ks) (one kinds.FlowSequenceStart a front refl refl)) (items_grow items a opened))
      (one kinds.FlowSequenceEnd (false ∷ a) filled refl refl)
  node_grows (mapping_node q pairs) a ks =
      let front = properties_kinds q.anchor (start_tag true q) ks in
      let opened = kinds.FlowMappingStart ∷ front in
      let filled = pairs_kinds pairs opened in
      both a (false ∷ a) a ks filled (kinds.FlowMappingEnd ∷ filled)
      (both a (false ∷ a) (false ∷ a) ks opened filled
      (both a a (false ∷ a) ks front opened (properties_grow q.anchor (start_tag true q) a ks) (one kinds.FlowMappingStart a front refl refl)) (pairs_grow pairs a opened))
      (one kinds.FlowMappingEnd (false ∷ a) filled refl refl)

  items_grow : (ns : Nodes) (a : List Bool) (ks : List Kind)
      → Grows (false ∷ a) (false ∷ a) ks (items_kinds ns ks)
  items_grow no_nodes a ks = nothing (false ∷ a) ks
  items_grow (node x xs) a ks =
      let item = node_kinds x ks in
      let next = kinds.FlowEntry ∷ item in
      both (false ∷ a) (false ∷ a) (false ∷ a) ks next _
      (both (false ∷ a) (false ∷ a) (false ∷ a) ks item next (node_grows x (false ∷ a) ks) (one kinds.FlowEntry (false ∷ a) item refl refl)) (items_grow xs a next)

  pairs_grow : (ps : Pairs) (a : List Bool) (ks : List Kind)
      → Grows (false ∷ a) (false ∷ a) ks (pairs_kinds ps ks)
  pairs_grow no_pairs a ks = nothing (false ∷ a) ks
  pairs_grow (pair k v ps) a ks =
      let question = kinds.KeyMark ∷ ks in
      let key = node_kinds k question in
      let colon = kinds.ValueMark ∷ key in
      let value = node_kinds v colon in
      let next = kinds.FlowEntry ∷ value in
      both (false ∷ a) (false ∷ a) (false ∷ a) ks next _
      (both (false ∷ a) (false ∷ a) (false ∷ a) ks value next
      (both (false ∷ a) (false ∷ a) (false ∷ a) ks colon value
      (both (false ∷ a) (true ∷ a) (false ∷ a) ks key colon
      (both (false ∷ a) (true ∷ a) (true ∷ a) ks question key (one kinds.KeyMark (false ∷ a) ks refl refl) (node_grows k (true ∷ a) question))
      (one kinds.ValueMark (true ∷ a) key refl refl))
      (node_grows v (false ∷ a) colon))
      (one kinds.FlowEntry (false ∷ a) value refl refl))
      (pairs_grow ps a next)

-- Documents.

end_if : (b : Bool) (ks : List Kind) → Grows [] [] ks (put_if b kinds.DocumentEnd ks)
end_if b ks = grind (arith, nat_tests, one, nothing)

version_grows : (v : Option yaml_version_directive_t) (ks : List Kind)
    → Grows [] [] ks (version_kinds v ks)
version_grows v ks = grind (arith, nat_tests, nothing, one)

directives_grow : (ds : List TagDirective) (ks : List Kind)
    → Grows [] [] ks (directives_kinds ds ks)
unfolding directives_kinds
directives_grow [] ks = nothing [] ks
directives_grow (d ∷ ds) ks = both [] [] [] ks (kinds.Directive ∷ ks) _ (one kinds.Directive [] ks refl refl) (directives_grow ds (kinds.Directive ∷ ks))

opening_grows : (unended : Bool) (o : Opening) (ks : List Kind)
    → Grows [] [] ks (opening_kinds unended o ks)
opening_grows unended o ks =
    let parted = put_if (unended && is_directed o) kinds.DocumentEnd ks in
    let version = version_kinds o.version parted in
    let directed = directives_kinds o.directives version in
    both [] [] [] ks directed (kinds.DocumentStart ∷ directed)
    (both [] [] [] ks version directed (both [] [] [] ks parted version (end_if (unended && is_directed o) ks) (version_grows o.version parted)) (directives_grow o.directives version))
    (one kinds.DocumentStart [] directed refl refl)

documents_grow : (unended : Bool) (ds : List Document) (ks : List Kind)
    → Grows [] [] ks (documents_kinds unended ds ks)
unfolding documents_kinds
documents_grow unended [] ks = nothing [] ks
documents_grow unended (d ∷ ds) ks =
    let opened = opening_kinds unended d.opening ks in
    let root = node_kinds d.root opened in
    let ended = put_if (not d.implicit_end) kinds.DocumentEnd root in
    both [] [] [] ks ended _
    (both [] [] [] ks root ended (both [] [] [] ks opened root (opening_grows unended d.opening ks) (node_grows d.root [] opened)) (end_if (not d.implicit_end) root))
    (documents_grow d.implicit_end ds ended)

pub canonical_free : (ds : List Document) → is_key_free (stream_kinds ds) ≡ true
unfolding is_key_free asked
canonical_free ds = (documents_grow false ds []).free refl refl

-- the words of a canonical stream reach its end
all_on : (ws : List Word)
    → list_all (λ (x : Word). not (is_end x.kind)) ws
    ≡ list_all (λ (k : Kind). not (is_end k)) (word_kinds ws)
all_on [] = refl
all_on (w ∷ ws) = ap (λ (b : Bool). not (is_end w.kind) && b) (all_on ws)

head_is : (k m : Kind) (ks ms : List Kind) → k ∷ ks ≡ m ∷ ms → k ≡ m
head_is k m ks ms e = cc

tail_is : (k m : Kind) (ks ms : List Kind) → k ∷ ks ≡ m ∷ ms → ks ≡ ms
tail_is k m ks ms e = cc

reaches : (ws : List Word) (ds : List Document) → word_kinds ws ≡ stream_kinds ds → ReachEnd ws
reaches [] ds e = absurd (cc)
reaches (w ∷ ws) ds e =
    let k = head_is w.kind kinds.StreamEnd (word_kinds ws) (documents_kinds false ds []) e in
    let ks = tail_is w.kind kinds.StreamEnd (word_kinds ws) (documents_kinds false ds []) e in
    (ap (λ (x : Kind). is_end x) k, all_on ws ∙ ap (λ (x : List Kind). list_all (λ (k : Kind). not (is_end k)) x) ks ∙ (documents_grow false ds []).on refl)

pub canonical_read : (s : SpelledText) (ds : List Document) (ws : List Word) → WordsStand s.text ws
    → word_kinds ws ≡ stream_kinds ds
    → offline s ≡ record {
      tokens = first_token s
          ∷ map (token_of s.text) (reverse ws);
      fault = None;
    }
canonical_read s ds ws stand e = grind (arith, nat_tests, words_read, canonical_free, reaches)
