-- A content is known by what it says.
use Rattle.std.proofs.Common.{◌≡◌, ℕ, true, List, [], ◌∷◌, Option, Some, None, refl, sym, ap, ◌∙◌}
use Rattle.yaml_round_content.proofs.Words.{yaml_version_directive_t, EventBody, TagDirective, untagged, tagged, Node, alias, scalar, sequence, mapping, Nodes, no_nodes, node, Pairs, no_pairs, pair, Document, node_says, items_say, pairs_say, documents_say, SaysIsInjective}
use Rattle.yaml_parse_model.specs.Events as event

abbrev Text : Type 0
Text = Option (List ℕ)

-- ---- events read back

-- what has begun: a collection's properties, what is in it so far, before what follows, and a key without its value
data Begun : Type 0 where
  in_sequence : Text → Text → (Nodes → Nodes) → Begun
  in_mapping : Text → Text → (Pairs → Pairs) → Begun
  at_value : Text → Text → (Pairs → Pairs) → Node → Begun

abbrev Read : Type 0
Read = Option (Node × List EventBody)

-- after a node
abbrev behind_node : Node → List Begun → List EventBody → (List Begun → Read) → Read
behind_node n [] es k = Some (n, es)
behind_node n (in_sequence a t f ∷ s) es k = k (in_sequence a t (λ ns. f (node n ns)) ∷ s)
behind_node n (in_mapping a t f ∷ s) es k = k (at_value a t f n ∷ s)
behind_node n (at_value a t f key ∷ s) es k = k (in_mapping a t (λ ps. f (pair key n ps)) ∷ s)

-- the node with whose events they begin, and the events after it
read : List EventBody → List Begun → Read
read (event.alias name ∷ es) s = behind_node (alias name) s es (λ z. read es z)
read (event.scalar a None value plain quoted style ∷ es) s = behind_node (scalar a (untagged plain) value) s es (λ z. read es z)
read (event.scalar a (Some t) value plain quoted style ∷ es) s = behind_node (scalar a (tagged t) value) s es (λ z. read es z)
read (event.sequence_start a t implicit style ∷ es) s = read es (in_sequence a t (λ ns. ns) ∷ s)
read (event.mapping_start a t implicit style ∷ es) s = read es (in_mapping a t (λ ps. ps) ∷ s)
read (event.sequence_end ∷ es) (in_sequence a t f ∷ s) = behind_node (sequence a t (f no_nodes)) s es (λ z. read es z)
read (event.mapping_end ∷ es) (in_mapping a t f ∷ s) = behind_node (mapping a t (f no_pairs)) s es (λ z. read es z)
read _ s = None

mutual
  unfolding node_says items_say pairs_say read

  node_read : (n : Node) (es : List EventBody) (s : List Begun)
      → read (node_says n es) s ≡ behind_node n s es (λ z. read es z)
  node_read (scalar a (untagged plain) value) es s = refl
  node_read (scalar a (tagged t) value) es s = refl
  node_read (sequence a t items) es s = items_read a t items (λ ns. ns) es s
  node_read (mapping a t pairs) es s = pairs_read a t pairs (λ ps. ps) es s
  node_read (alias name) es s = refl

  items_read : (a t : Text) (ns : Nodes) (f : Nodes → Nodes) (es : List EventBody) (s : List Begun)
      → read (items_say ns (event.sequence_end ∷ es)) (in_sequence a t f ∷ s)
      ≡ behind_node (sequence a t (f ns)) s es (λ z. read es z)
  items_read a t no_nodes f es s = refl
  items_read a t (node n ns) f es s = node_read n (items_say ns (event.sequence_end ∷ es)) (in_sequence a t f ∷ s) ∙ items_read a t ns (λ ms. f (node n ms)) es s

  pairs_read : (a t : Text) (ps : Pairs) (f : Pairs → Pairs) (es : List EventBody) (s : List Begun)
      → read (pairs_say ps (event.mapping_end ∷ es)) (in_mapping a t f ∷ s)
      ≡ behind_node (mapping a t (f ps)) s es (λ z. read es z)
  pairs_read a t no_pairs f es s = refl
  pairs_read a t (pair k v ps) f es s =
      node_read k (node_says v (pairs_say ps (event.mapping_end ∷ es))) (in_mapping a t f ∷ s)
      ∙ node_read v (pairs_say ps (event.mapping_end ∷ es)) (at_value a t f k ∷ s)
      ∙ pairs_read a t ps (λ qs. f (pair k v qs)) es s

node_known : (m n : Node) (x y : List EventBody) → node_says m x ≡ node_says n y
    → (m ≡ n) × (x ≡ y)
node_known m n x y e =
    let p : Some (m, x) ≡ Some (n, y) = sym (node_read m x []) ∙ ap (λ (es : List EventBody). read es []) e ∙ node_read n y [] in
    let q : (m, x) ≡ (n, y) = cc in
    (ap (λ (z : Node × List EventBody). z.0) q, ap (λ (z : Node × List EventBody). z.1) q)

-- equal lists have equal rests
pub rest_same : (b c : EventBody) (x y : List EventBody) → b ∷ x ≡ c ∷ y → x ≡ y
rest_same b c x y e = cc

-- ---- documents

document_parts : (u v : Option yaml_version_directive_t) (ds es : List TagDirective)
    (x y : List EventBody) → event.document_start u ds true ∷ x ≡ event.document_start v es true ∷ y
    → (u ≡ v) × (ds ≡ es) × (x ≡ y)
document_parts u v ds es x y e = (cc, cc, cc)

not_both : (v : Option yaml_version_directive_t) (ds : List TagDirective) (x : List EventBody)
    → event.stream_end ∷ [] ≡ event.document_start v ds true ∷ x → ⊥
not_both v ds x e = absurd (cc)

document_same : (c d : Document) → c.version ≡ d.version → c.directives ≡ d.directives
    → c.root ≡ d.root → c ≡ d
document_same c d e f g =
    ap (λ (z : Option yaml_version_directive_t). record { version = z; directives = c.directives; root = c.root }) e
    ∙ ap (λ (z : List TagDirective). record { version = d.version; directives = z; root = c.root }) f
    ∙ ap (λ (z : Node). record { version = d.version; directives = d.directives; root = z }) g

documents_known : (cs ds : List Document) → documents_say cs ≡ documents_say ds → cs ≡ ds
unfolding documents_say
documents_known [] [] e = refl
documents_known [] (d ∷ ds) e = absurd (not_both d.version d.directives (node_says d.root (event.document_end true ∷ documents_say ds)) e)
documents_known (c ∷ cs) [] e = absurd (not_both c.version c.directives (node_says c.root (event.document_end true ∷ documents_say cs)) (sym e))
documents_known (c ∷ cs) (d ∷ ds) e =
    let (v, t, r) = document_parts c.version d.version c.directives d.directives (node_says c.root (event.document_end true ∷ documents_say cs)) (node_says d.root (event.document_end true ∷ documents_say ds)) e in
    let (n, s) = node_known c.root d.root (event.document_end true ∷ documents_say cs) (event.document_end true ∷ documents_say ds) r in
    let more = documents_known cs ds (rest_same (event.document_end true) (event.document_end true) (documents_say cs) (documents_say ds) s) in
    ap (λ (z : Document). z ∷ cs) (document_same c d v t n) ∙ ap (λ (z : List Document). d ∷ z) more

pub says_injective : SaysIsInjective
says_injective c e h = documents_known c e (rest_same _ _ (documents_say c) (documents_say e) h)
