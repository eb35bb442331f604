-- The events of a stream are those of one list of documents.
use Rattle.std.proofs.Common.{◌≡◌, ℕ, Bool, List, [], ◌∷◌, refl, sym, ap, ◌∙◌}
use Rattle.yaml_emit_laws.specs.emit_layout.Content as event
use Rattle.yaml_emit_laws.specs.emit_layout.Content.{Scalar, Start, Opening, Node, alias_node, scalar_node, sequence_node, mapping_node, Nodes, no_nodes, node, Pairs, no_pairs, pair, Document, Event, node_events, items_events, pairs_events, documents_events}
use Rattle.yaml_round_content.specs.KeptLaws.{StreamsAreKnown}

-- ---- first events

-- what an event begins: 1 to 4 a node, 0 none
abbrev kind : Event → ℕ
kind (event.alias name) = 1
kind (event.scalar x) = 2
kind (event.sequence_start q) = 3
kind (event.mapping_start q) = 4
kind other = 0

abbrev first_kind : List Event → ℕ
first_kind [] = 0
first_kind (e ∷ es) = kind e

abbrev node_kind : Node → ℕ
node_kind (alias_node name) = 1
node_kind (scalar_node x) = 2
node_kind (sequence_node q items) = 3
node_kind (mapping_node q pairs) = 4

begins : (n : Node) (es : List Event) → first_kind (node_events n es) ≡ node_kind n
unfolding node_events
begins (alias_node name) es = refl
begins _ es = refl

no_kind : (n : Node) → node_kind n ≡ 0 → ⊥
no_kind (alias_node name) e = absurd (cc)
no_kind _ e = absurd (cc)

-- a node is none of the events that end one
not_end : (n : Node) (x y : List Event) (b : Event) → kind b ≡ 0 → b ∷ x ≡ node_events n y → ⊥
not_end n x y b z e = no_kind n (sym (begins n y) ∙ sym (ap (λ (es : List Event). first_kind es) e) ∙ z)

apart_kinds : (m n : Node) (j k : ℕ) → node_kind m ≡ j → node_kind n ≡ k → (j ≡ k → ⊥)
    → (x y : List Event) → node_events m x ≡ node_events n y → ⊥
apart_kinds m n j k a b d x y e = d (sym a ∙ (sym (begins m x) ∙ ap (λ (es : List Event). first_kind es) e ∙ begins n y) ∙ b)

-- ---- parts

rest_same : (b c : Event) (x y : List Event) → b ∷ x ≡ c ∷ y → x ≡ y
rest_same b c x y e = cc

alias_parts : (a b : List ℕ) (x y : List Event) → event.alias a ∷ x ≡ event.alias b ∷ y
    → (a ≡ b) × (x ≡ y)
alias_parts a b x y e = (cc, cc)

scalar_parts : (a b : Scalar) (x y : List Event) → event.scalar a ∷ x ≡ event.scalar b ∷ y
    → (a ≡ b) × (x ≡ y)
scalar_parts a b x y e = (cc, cc)

sequence_parts : (q r : Start) (x y : List Event)
    → event.sequence_start q ∷ x ≡ event.sequence_start r ∷ y → (q ≡ r) × (x ≡ y)
sequence_parts q r x y e = (cc, cc)

mapping_parts : (q r : Start) (x y : List Event)
    → event.mapping_start q ∷ x ≡ event.mapping_start r ∷ y → (q ≡ r) × (x ≡ y)
mapping_parts q r x y e = (cc, cc)

-- ---- nodes

abbrev Known : Node → Type 0
Known m = (n : Node) (x y : List Event) → node_events m x ≡ node_events n y → (m ≡ n) × (x ≡ y)

abbrev ItemsKnown : Nodes → Type 0
ItemsKnown m = (n : Nodes) (x y : List Event) → items_events m (event.sequence_end ∷ x) ≡ items_events n (event.sequence_end ∷ y) → (m ≡ n) × (x ≡ y)

abbrev PairsKnown : Pairs → Type 0
PairsKnown m = (n : Pairs) (x y : List Event) → pairs_events m (event.mapping_end ∷ x) ≡ pairs_events n (event.mapping_end ∷ y) → (m ≡ n) × (x ≡ y)

alias_known : (a : List ℕ) → Known (alias_node a)
unfolding node_events
alias_known a (alias_node b) x y e = let (i, r) = alias_parts a b x y e in (ap alias_node i, r)
alias_known a (scalar_node b) x y e = absurd (apart_kinds (alias_node a) (scalar_node b) 1 2 refl refl (λ z. cc) x y e)
alias_known a (sequence_node q m) x y e = absurd (apart_kinds (alias_node a) (sequence_node q m) 1 3 refl refl (λ z. cc) x y e)
alias_known a (mapping_node q m) x y e = absurd (apart_kinds (alias_node a) (mapping_node q m) 1 4 refl refl (λ z. cc) x y e)

scalar_known : (a : Scalar) → Known (scalar_node a)
unfolding node_events
scalar_known a (scalar_node b) x y e = let (i, r) = scalar_parts a b x y e in (ap scalar_node i, r)
scalar_known a (alias_node b) x y e = absurd (apart_kinds (scalar_node a) (alias_node b) 2 1 refl refl (λ z. cc) x y e)
scalar_known a (sequence_node q m) x y e = absurd (apart_kinds (scalar_node a) (sequence_node q m) 2 3 refl refl (λ z. cc) x y e)
scalar_known a (mapping_node q m) x y e = absurd (apart_kinds (scalar_node a) (mapping_node q m) 2 4 refl refl (λ z. cc) x y e)

sequence_known : (q : Start) (m : Nodes) → ItemsKnown m → Known (sequence_node q m)
unfolding node_events
sequence_known q m more (sequence_node r n) x y e =
    let (i, s) = sequence_parts q r (items_events m (event.sequence_end ∷ x)) (items_events n (event.sequence_end ∷ y)) e in
    let (j, z) = more n x y s in
    (ap (λ (a : Start). sequence_node a m) i ∙ ap (λ (a : Nodes). sequence_node r a) j, z)
sequence_known q m more (alias_node b) x y e = absurd (apart_kinds (sequence_node q m) (alias_node b) 3 1 refl refl (λ z. cc) x y e)
sequence_known q m more (scalar_node b) x y e = absurd (apart_kinds (sequence_node q m) (scalar_node b) 3 2 refl refl (λ z. cc) x y e)
sequence_known q m more (mapping_node r n) x y e = absurd (apart_kinds (sequence_node q m) (mapping_node r n) 3 4 refl refl (λ z. cc) x y e)

mapping_known : (q : Start) (m : Pairs) → PairsKnown m → Known (mapping_node q m)
unfolding node_events
mapping_known q m more (mapping_node r n) x y e =
    let (i, s) = mapping_parts q r (pairs_events m (event.mapping_end ∷ x)) (pairs_events n (event.mapping_end ∷ y)) e in
    let (j, z) = more n x y s in
    (ap (λ (a : Start). mapping_node a m) i ∙ ap (λ (a : Pairs). mapping_node r a) j, z)
mapping_known q m more (alias_node b) x y e = absurd (apart_kinds (mapping_node q m) (alias_node b) 4 1 refl refl (λ z. cc) x y e)
mapping_known q m more (scalar_node b) x y e = absurd (apart_kinds (mapping_node q m) (scalar_node b) 4 2 refl refl (λ z. cc) x y e)
mapping_known q m more (sequence_node r n) x y e = absurd (apart_kinds (mapping_node q m) (sequence_node r n) 4 3 refl refl (λ z. cc) x y e)

items_none : ItemsKnown no_nodes
unfolding items_events
items_none no_nodes x y e = (refl, rest_same event.sequence_end event.sequence_end x y e)
items_none (node n ns) x y e = absurd (not_end n x (items_events ns (event.sequence_end ∷ y)) event.sequence_end refl e)

items_more : (m : Node) (ms : Nodes) → Known m → ItemsKnown ms → ItemsKnown (node m ms)
unfolding items_events
items_more m ms one more no_nodes x y e = absurd (not_end m y (items_events ms (event.sequence_end ∷ x)) event.sequence_end refl (sym e))
items_more m ms one more (node n ns) x y e =
    let (i, r) = one n (items_events ms (event.sequence_end ∷ x)) (items_events ns (event.sequence_end ∷ y)) e in
    let (j, z) = more ns x y r in
    (ap (λ (a : Node). node a ms) i ∙ ap (λ (a : Nodes). node n a) j, z)

pairs_none : PairsKnown no_pairs
unfolding pairs_events
pairs_none no_pairs x y e = (refl, rest_same event.mapping_end event.mapping_end x y e)
pairs_none (pair k v ps) x y e = absurd (not_end k x (node_events v (pairs_events ps (event.mapping_end ∷ y))) event.mapping_end refl e)

pairs_more : (k v : Node) (ps : Pairs) → Known k → Known v → PairsKnown ps
    → PairsKnown (pair k v ps)
unfolding pairs_events
pairs_more k v ps key value more no_pairs x y e = absurd (not_end k y (node_events v (pairs_events ps (event.mapping_end ∷ x))) event.mapping_end refl (sym e))
pairs_more k v ps key value more (pair l w qs) x y e =
    let (i, r) = key l (node_events v (pairs_events ps (event.mapping_end ∷ x))) (node_events w (pairs_events qs (event.mapping_end ∷ y))) e in
    let (j, s) = value w (pairs_events ps (event.mapping_end ∷ x)) (pairs_events qs (event.mapping_end ∷ y)) r in
    let (h, z) = more qs x y s in
    ((ap (λ (z : Node). pair z v ps) i ∙ ap (λ (z : Node). pair l z ps) j ∙ ap (λ (z : Pairs). pair l w z) h), z)

mutual
  node_known : (m : Node) → Known m
  node_known (alias_node a) = alias_known a
  node_known (scalar_node a) = scalar_known a
  node_known (sequence_node q m) = sequence_known q m (items_known m)
  node_known (mapping_node q m) = mapping_known q m (pairs_known m)

  items_known : (m : Nodes) → ItemsKnown m
  items_known no_nodes = items_none
  items_known (node m ms) = items_more m ms (node_known m) (items_known ms)

  pairs_known : (m : Pairs) → PairsKnown m
  pairs_known no_pairs = pairs_none
  pairs_known (pair k v ps) = pairs_more k v ps (node_known k) (node_known v) (pairs_known ps)

-- ---- documents

start_parts : (o p : Opening) (x y : List Event)
    → event.document_start o ∷ x ≡ event.document_start p ∷ y → (o ≡ p) × (x ≡ y)
start_parts o p x y e = (cc, cc)

end_parts : (a b : Bool) (x y : List Event) → event.document_end a ∷ x ≡ event.document_end b ∷ y
    → (a ≡ b) × (x ≡ y)
end_parts a b x y e = (cc, cc)

not_both : (o : Opening) (x : List Event) → event.stream_end ∷ [] ≡ event.document_start o ∷ x → ⊥
not_both o x e = absurd (cc)

document_same : (c d : Document) → c.opening ≡ d.opening → c.root ≡ d.root
    → c.implicit_end ≡ d.implicit_end → c ≡ d
document_same c d e f g =
    ap (λ (z : Opening). record { opening = z; root = c.root; implicit_end = c.implicit_end }) e
    ∙ ap (λ (z : Node). record { opening = d.opening; root = z; implicit_end = c.implicit_end }) f
    ∙ ap (λ (z : Bool). record { opening = d.opening; root = d.root; implicit_end = z }) g

documents_known : (cs ds : List Document) → documents_events cs ≡ documents_events ds → cs ≡ ds
unfolding documents_events
documents_known [] [] e = refl
documents_known [] (d ∷ ds) e = absurd (not_both d.opening (node_events d.root (event.document_end d.implicit_end ∷ documents_events ds)) e)
documents_known (c ∷ cs) [] e = absurd (not_both c.opening (node_events c.root (event.document_end c.implicit_end ∷ documents_events cs)) (sym e))
documents_known (c ∷ cs) (d ∷ ds) e =
    let (o, r) = start_parts c.opening d.opening (node_events c.root (event.document_end c.implicit_end ∷ documents_events cs)) (node_events d.root (event.document_end d.implicit_end ∷ documents_events ds)) e in
    let (n, s) = node_known c.root d.root (event.document_end c.implicit_end ∷ documents_events cs) (event.document_end d.implicit_end ∷ documents_events ds) r in
    let (i, t) = end_parts c.implicit_end d.implicit_end (documents_events cs) (documents_events ds) s in
    ap (λ (z : Document). z ∷ cs) (document_same c d o n i) ∙ ap (λ (z : List Document). d ∷ z) (documents_known cs ds t)

pub streams_known : StreamsAreKnown
streams_known x y c e h = documents_known c e (rest_same _ _ (documents_events c) (documents_events e) h)
