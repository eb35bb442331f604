-- What a document's soundness says after a change.
use Rattle.std.proofs.Common.{◌≡◌, ◌≤◌, ◌<◌, ℕ, zero, suc, ℤ, pos, List, [], ◌∷◌, ◌++◌, length, map, Option, IsSome, IsUtf8, OnOk, arith, sym, ◌∙◌, ap, subst, refl, get_or, Result, Ok, Err, MatchResult}
use Rattle.std.proofs.Math.ListN.{set}
use Rattle.std.proofs.Math.Seq.{map-set_same}
use Rattle.std.specs.Prelude.{slice_get, option_map}
use Rattle.std.specs.Borrow.{Bor}
use Rattle.std.specs.Slice.{IsItemAt}
use Rattle.std.proofs.lemmas.List.{length-map}
use Rattle.std.proofs.lemmas.Option.{slice_get-map, slice_get_read, slice_get_past}
use Rattle.yaml_parse_model.specs.declared.node.yaml_node_pair_t.{yaml_node_pair_t}
use Rattle.yaml_parse_model.specs.declared.node.yaml_node_t.{yaml_node_t}
use Rattle.yaml_parse_model.specs.declared.prefix.yaml_text_fault_t.{yaml_text_fault_t}
use Rattle.yaml_parse_model.specs.declared.prefix.yaml_text_fault_t.TheVariants.{Memory}
use Rattle.yaml_parse_model.specs.Constructors.{IsUtf8Option}
use Rattle.yaml_parse_model.specs.Nodes.{Node, NodeBody, node_of}
use Rattle.yaml_parse_model.specs.Documents.{Document, node_at, IsId, AreIds, ArePairs, IsSoundBody, IsSoundNode, AreSound, IsSoundAt, IsDocument, with_node, change_place, change_body, with_item, with_pair, IsKindAt, HasRoomAt, tag_or, str_tag, seq_tag, map_tag, Adds, Appends}

-- ---- more nodes

-- An id of a document is one where nodes were added.
pub wider_id : (m n : ℕ) (id : ℤ) → m ≤ n → IsId m id → IsId n id
wider_id m n id h i = grind arith

-- Ids of a document are ids where nodes were added.
pub wider_ids : (m n : ℕ) (ids : List ℤ) → m ≤ n → AreIds m ids → AreIds n ids
wider_ids m n [] h a = tt
wider_ids m n (id ∷ ids) h a = (wider_id m n id h a.0, wider_ids m n ids h a.1)

-- Pairs of a document are pairs where nodes were added.
pub wider_pairs : (m n : ℕ) (ps : List yaml_node_pair_t) → m ≤ n → ArePairs m ps → ArePairs n ps
wider_pairs m n [] h a = tt
wider_pairs m n (p ∷ ps) h a = ((wider_id m n p.key h a.0.0, wider_id m n p.value h a.0.1), wider_pairs m n ps h a.1)

wider_body : (m n : ℕ) (b : NodeBody) → m ≤ n → IsSoundBody m b → IsSoundBody n b
wider_body m n b h s = grind (arith, wider_ids, wider_pairs)

pub wider_node : (m n : ℕ) (x : Node) → m ≤ n → IsSoundNode m x → IsSoundNode n x
wider_node m n x h s = (s.0, wider_body m n x.body h s.1)

pub wider : (m n : ℕ) (ns : List Node) → m ≤ n → AreSound m ns → AreSound n ns
wider m n [] h s = tt
wider m n (x ∷ ns) h s = (wider_node m n x h s.0, wider m n ns h s.1)

pub sound_push : (m : ℕ) (ns : List Node) (x : Node) → AreSound m ns → IsSoundNode m x
    → AreSound m (ns ++ x ∷ [])
sound_push m [] x s h = (h, tt)
sound_push m (n ∷ ns) x s h = (s.0, sound_push m ns x s.1 h)

-- A node more is one more.
pub length_push : {A : Type 0} (ns : List A) (x : A) → length (ns ++ x ∷ []) ≡ suc (length ns)
length_push [] x = refl
length_push (n ∷ ns) x = ap suc (length_push ns x)

-- a sound node more
pub with_node_sound : (d : Document) (x : Node) → IsDocument d → IsSoundNode (length d.nodes) x
    → IsDocument (with_node d x)
with_node_sound d x s h = grind (arith, length_push, sound_push, wider, wider_node)

-- ---- a node changed

-- Changing a node keeps how many there are.
pub length_change : (f : Node → Node) (k : ℕ) (ns : List Node)
    → length (change_place f k ns) ≡ length ns
length_change f k [] = refl
length_change f zero (n ∷ ns) = refl
length_change f (suc k) (n ∷ ns) = ap suc (length_change f k ns)

-- A change that keeps nodes sound keeps a document sound.
pub sound_change : (m : ℕ) (f : Node → Node) (k : ℕ) (ns : List Node)
    → ((x : Node) → IsSoundNode m x → IsSoundNode m (f x)) → AreSound m ns
    → AreSound m (change_place f k ns)
sound_change m f k [] h s = tt
sound_change m f zero (n ∷ ns) h s = (h n s.0, s.1)
sound_change m f (suc k) (n ∷ ns) h s = (s.0, sound_change m f k ns h s.1)

-- the body of one node is changed, and stays sound
pub changed_sound : (d : Document) (f : NodeBody → NodeBody) (id : ℤ)
    → ((b : NodeBody) → IsSoundBody (length d.nodes) b → IsSoundBody (length d.nodes) (f b))
    → IsDocument d → IsDocument (change_body f id d)
changed_sound d f id h s = grind (arith, length_change, sound_change)

-- One sound id more keeps ids sound.
pub sound_ids_push : (m : ℕ) (ids : List ℤ) (id : ℤ) → AreIds m ids → IsId m id
    → AreIds m (ids ++ id ∷ [])
sound_ids_push m [] id s h = (h, tt)
sound_ids_push m (x ∷ ids) id s h = (s.0, sound_ids_push m ids id s.1 h)

abbrev pub pair_of : ℤ → ℤ → yaml_node_pair_t
pair_of key value = record { key = key; value = value }

pub same_pair : {k l v w : ℤ} → k ≡ l → v ≡ w → with_pair (pair_of k v) ≡ with_pair (pair_of l w)
same_pair e f = rw (e, f) refl

-- One sound pair more keeps pairs sound.
pub sound_pairs_push : (m : ℕ) (ps : List yaml_node_pair_t) (p : yaml_node_pair_t) → ArePairs m ps
    → IsId m p.key × IsId m p.value → ArePairs m (ps ++ p ∷ [])
sound_pairs_push m [] p s h = (h, tt)
sound_pairs_push m (x ∷ ps) p s h = (s.0, sound_pairs_push m ps p s.1 h)

pub item_sound : (m : ℕ) (id : ℤ) → IsId m id → (b : NodeBody) → IsSoundBody m b
    → IsSoundBody m (with_item id b)
item_sound m id h b s = grind (arith, sound_ids_push)

pub pair_sound : (m : ℕ) (p : yaml_node_pair_t) → IsId m p.key × IsId m p.value → (b : NodeBody)
    → IsSoundBody m b → IsSoundBody m (with_pair p b)
pair_sound m p h b s = grind (arith, sound_pairs_push)

-- a number that has a node is one of that many
some_place : (ns : List Node) (k : ℕ) → IsSome (slice_get ns k) → suc k ≤ length ns
some_place [] k h = cc
some_place (n ∷ ns) zero h = omega arith
some_place (n ∷ ns) (suc k) h = let r : suc k ≤ length ns = some_place ns k h in omega arith

pub some_id : (ns : List Node) (id : ℤ) → IsSome (node_at ns id) → IsId (length ns) id
some_id ns id h = grind (arith, some_place)

-- a write of a node at a place, seen by views
pub set_changes : (f : Node → Node) (items : List yaml_node_t) (k : ℕ) (old new : yaml_node_t)
    → k < length items → old ≡ get_or items k old → node_of new ≡ f (node_of old)
    → map node_of (set items k new) ≡ change_place f k (map node_of items)
set_changes f [] k old new h e i = absurd (omega arith)
set_changes f (x ∷ items) zero old new h e i = ap (λ n. n ∷ map node_of items) (i ∙ ap (λ (m : yaml_node_t). f (node_of m)) e)
set_changes f (x ∷ items) (suc k) old new h e i = ap (λ ns. node_of x ∷ ns) (set_changes f items k old new (omega arith) e i)

-- ---- an appending call

kind_place : (IsKind : NodeBody → Type 0) (ns : List Node) (k : ℕ)
    → IsKindAt IsKind (slice_get ns k) → k < length ns
kind_place IsKind [] k h = absurd h
kind_place IsKind (n ∷ ns) zero h = omega arith
kind_place IsKind (n ∷ ns) (suc k) h = let r : k < length ns = kind_place IsKind ns k h in omega arith

kind_of_place : (IsKind : NodeBody → Type 0) (items : List yaml_node_t) (k : ℕ) (old : yaml_node_t)
    → k < length items → old ≡ get_or items k old
    → IsKind (node_of old).body → IsKindAt IsKind (slice_get (map node_of items) k)
kind_of_place IsKind [] k old h e i = absurd (omega arith)
kind_of_place IsKind (x ∷ items) zero old h e i = subst (λ (n : yaml_node_t). IsKind (node_of n).body) e i
kind_of_place IsKind (x ∷ items) (suc k) old h e i = kind_of_place IsKind items k old (omega arith) e i

-- where it was within the list: what it changed, and that there was room
appended_at : {A : Type 0} (f : NodeBody → NodeBody) (count : NodeBody → ℕ) (d : Document)
    (items : List yaml_node_t) (k : ℕ) (old new : yaml_node_t) (r : Result A yaml_text_fault_t)
    → k < length items → old ≡ get_or items k old → d.nodes ≡ map node_of items
    → MatchResult r (λ _. (node_of new ≡ record (node_of old) { body = f (node_of old).body })
    × (count (node_of old).body < 2147483647)) (λ e. (node_of new ≡ node_of old) × (e ≡ Memory))
    → Appends d (change_body f (pos (suc k)) d) r (record d { nodes = map node_of (set items k new) })
    × OnOk r (HasRoomAt count d (pos (suc k)))
appended_at f count d items k old new (Ok x) inside is view h = (
  ap (λ (ns : List Node). let e : Document = record d { nodes = ns } in e)
      (set_changes (λ n. record n { body = f n.body }) items k old new inside is h.0 ∙ ap (change_place (λ n. record n { body = f n.body }) k) (sym view)),
  subst (λ (ns : List Node). IsKindAt (λ b. count b < 2147483647) (slice_get ns k)) (sym view) (kind_of_place (λ b. count b < 2147483647) items k old inside is h.1),
)
appended_at f count d items k old new (Err e) inside is view h =
    ((ap (λ (ns : List Node). let e : Document = record d { nodes = ns } in e) (map-set_same node_of items k new old (h.0 ∙ ap node_of is) ∙ sym view), h.1), tt)

-- likewise for a node of some kind, under its number
pub appended : {A : Type 0} (IsKind : NodeBody → Type 0) (f g : NodeBody → NodeBody)
    (count : NodeBody → ℕ) (d e : Document) (items : List yaml_node_t) (k : ℕ) (id : ℤ)
    (old new : yaml_node_t) (r : Result A yaml_text_fault_t)
    → f ≡ g → d ≡ e → id ≡ pos (suc k) → IsKindAt IsKind (node_at e.nodes id)
    → old ≡ get_or items k old → d.nodes ≡ map node_of items
    → MatchResult r (λ _. (node_of new ≡ record (node_of old) { body = f (node_of old).body })
    × (count (node_of old).body < 2147483647)) (λ e. (node_of new ≡ node_of old) × (e ≡ Memory))
    → Appends e (change_body g id e) r (record d { nodes = map node_of (set items k new) })
    × OnOk r (HasRoomAt count e id)
appended IsKind f g count d e items k id old new r same at_view at_k kind is view h =
    let here : IsKindAt IsKind (slice_get d.nodes k) = rw at_view (subst (λ (i : ℤ). IsKindAt IsKind (node_at e.nodes i)) at_k kind) in
    let within : k < length items = omega (arith, kind_place IsKind d.nodes k here, ap length view, length-map items node_of) in
    rw (← same, ← at_view, at_k) (appended_at f count d items k old new r within is view h)

-- ---- default tags

pub tag_utf8 : (tag : Option (List ℕ)) (default : List ℕ) → IsUtf8 default → IsUtf8Option tag
    → IsUtf8 (tag_or tag default)
tag_utf8 tag default a h = grind arith

-- The tag of scalars is UTF-8.
pub str_utf8 : IsUtf8 str_tag
unfolding lib.Utf8.encode
str_utf8 = (str_tag, (refl, refl))

-- The tag of sequences is UTF-8.
pub seq_utf8 : IsUtf8 seq_tag
unfolding lib.Utf8.encode
seq_utf8 = (seq_tag, (refl, refl))

-- The tag of mappings is UTF-8.
pub map_utf8 : IsUtf8 map_tag
unfolding lib.Utf8.encode
map_utf8 = (map_tag, (refl, refl))

-- an adding call whose texts are UTF-8
pub added : (d : Document) (m n : Node) (P : Type 0) (r : Result ℤ yaml_text_fault_t)
    (new : Document) → m ≡ n → P
    → MatchResult r (λ id. (new ≡ with_node d m) × (id ≡ pos (suc (length d.nodes))))
    (λ f. (new ≡ d) × (f ≡ Memory))
    → Adds d n P r new
added d m n g r new e p h = grind arith

-- ---- a node that a number names

sound_item : (n k : ℕ) (nodes : List Node) → AreSound n nodes → IsSoundAt n (slice_get nodes k)
sound_item n k [] h = tt
sound_item n zero (x ∷ xs) h = h.0
sound_item n (suc k) (x ∷ xs) h = sound_item n k xs h.1

pub sound_at : (n : ℕ) (nodes : List Node) (id : ℤ) → AreSound n nodes
    → IsSoundAt n (node_at nodes id)
sound_at n nodes id h = grind (arith, sound_item)

-- A node that is passed by reference is the view's at that place.
pub node_lent : (r : Option (Bor yaml_node_t)) (items : List yaml_node_t) (k : ℕ)
    → IsItemAt items k r → option_map (λ n. node_of n.now) r ≡ slice_get (map node_of items) k
node_lent r items k h = grind (arith, slice_get-map, slice_get_past, slice_get_read)
