-- What a node holds, one after another.
use Rattle.std.proofs.Common.{◌≡◌, ℕ, suc, ◌+◌, ◌<◌, ◌≤◌, ℤ, pos, negsuc, zero, List, [], ◌∷◌, ◌++◌, length, map, get_or, take, drop, Some, None, refl, sym, subst, ◌∙◌, ap, arith, append_assoc, append-nil, add-one}
use Rattle.std.specs.Prelude.{◌≤ℤ◌, slice_get}
use Rattle.std.proofs.lemmas.Int.{ints}
use Rattle.std.proofs.lemmas.List.{map-append, take_more, drop_more, take_all, drop_all}
use Rattle.yaml_parse_model.specs.declared.yaml_node_pair_t.{yaml_node_pair_t}
use Rattle.yaml_parse_model.specs.Nodes.{Node, NodeBody}
use Rattle.yaml_parse_model.specs.Nodes as node
use Rattle.yaml_parse_model.specs.Documents.{AreIds, ArePairs, AreSound, IsId, IsSoundAt, IsSoundBody}
use Rattle.yaml_emit_graph.specs.Graph.{body_at, body_of_id}
use Rattle.yaml_round_documents.specs.Telling.{keys_of, pair_keys}
use Rattle.yaml_round_documents.specs.Pairs.{held_values, key_labels, places_from}
use Rattle.yaml_round_documents.specs.Steps.{AreNumbers}

-- ---- places

pub places_next : (items : List ℤ) (at n : ℕ) (now all : List ℕ)
    → now ++ places_from at (drop at items) ≡ all → at < length items → n ≡ at
    → (now ++ n ∷ []) ++ places_from (at + 1) (drop (at + 1) items) ≡ all
places_next items at n now all h w e =
    let rest = drop (at + 1) items in
    append_assoc now (n ∷ []) (places_from (at + 1) rest)
    ∙ ap (λ z. now ++ (z ∷ places_from (at + 1) rest)) e
    ∙ ap (λ z. now ++ (at ∷ places_from z rest)) (add-one at)
    ∙ ap (λ z. now ++ places_from at z) (sym (drop_more items at (pos 0) w)) ∙ h

pub all_places : (items : List ℤ) (at : ℕ) (now all : List ℕ)
    → now ++ places_from at (drop at items) ≡ all → length items ≤ at → now ≡ all
all_places items at now all h w =
    sym (append-nil now) ∙ ap (λ z. now ++ places_from at z) (sym (drop_all at items w)) ∙ h

-- ---- one of each

pub mapped_next : {A B : Type 0} (f : A → B) (xs : List A) (at : ℕ) (d : A) (now : List B) (y : B)
    → now ≡ map f (take at xs) → at < length xs → y ≡ f (get_or xs at d)
    → now ++ y ∷ [] ≡ map f (take (at + 1) xs)
mapped_next f xs at d now y h w e =
    ap (λ z. z ++ y ∷ []) h ∙ ap (λ z. map f (take at xs) ++ z ∷ []) e
    ∙ sym (map-append f (take at xs) (get_or xs at d ∷ [])) ∙ ap (map f) (sym (take_more xs at d w))

pub all_mapped : {A B : Type 0} (f : A → B) (xs : List A) (at : ℕ) (now : List B)
    → now ≡ map f (take at xs) → length xs ≤ at → now ≡ map f xs
all_mapped f xs at now h w = h ∙ ap (map f) (take_all at xs w)

-- ---- what a node holds are nodes

sound_at : (count : ℕ) (ns : List Node) (k : ℕ) → AreSound count ns
    → IsSoundAt count (slice_get ns k)
sound_at count [] k h = tt
sound_at count (n ∷ ns) zero h = h.0
sound_at count (n ∷ ns) (suc k) h = sound_at count ns k h.1

pub body_sound : (count : ℕ) (nodes : List Node) (id : ℤ) → AreSound count nodes
    → IsSoundBody count (body_of_id nodes id)
body_sound count nodes (pos zero) h = tt
body_sound count nodes (negsuc k) h = tt
body_sound count nodes (pos (suc k)) h =
    elim (slice_get nodes k) as (λ o. IsSoundAt count o → IsSoundBody count (body_at o)) [
      | None ↦ λ s. tt
      | Some n ↦ λ s. s.1
    ] (sound_at count nodes k h)

pair_sound : (count : ℕ) (ps : List yaml_node_pair_t) → ArePairs count ps
    → AreIds count (pair_keys ps) × AreIds count (map (λ (p : yaml_node_pair_t). p.value) ps)
pair_sound count [] h = (tt, tt)
pair_sound count (p ∷ ps) h = let r = pair_sound count ps h.1 in ((h.0.0, r.0), (h.0.1, r.1))

pub held_sound : (count : ℕ) (b : NodeBody) → IsSoundBody count b
    → AreIds count (keys_of b) × AreIds count (held_values b)
held_sound count node.no h = (tt, tt)
held_sound count (node.scalar v s) h = (tt, tt)
held_sound count (node.sequence v s) h = (tt, h)
held_sound count (node.mapping v s) h = pair_sound count v h

pub one_number : (count : ℕ) (a : ℤ) → IsId count a → pos 1 ≤ℤ a
one_number count (pos (suc k)) v = omega (arith, ints)
one_number count (pos zero) v = absurd v
one_number count (negsuc k) v = absurd v

numbers : (count : ℕ) (ids : List ℤ) → AreIds count ids → AreNumbers ids
numbers count [] h = tt
numbers count (a ∷ ids) h = (one_number count a h.0, numbers count ids h.1)

pub held_numbers : (nodes : List Node) (id : ℤ) (values : List ℤ) → AreSound (length nodes) nodes
    → values ≡ held_values (body_of_id nodes id) → AreNumbers values
held_numbers nodes id values h e =
    subst AreNumbers (sym e) (numbers (length nodes) (held_values (body_of_id nodes id)) (held_sound (length nodes) (body_of_id nodes id) (body_sound (length nodes) nodes id h)).1)

-- ---- as many labels as values

places_many : (at : ℕ) (items : List ℤ) → length (places_from at items) ≡ length items
places_many at [] = refl
places_many at (x ∷ items) = ap suc (places_many (suc at) items)

pairs_many : (label : ℤ → ℕ) (ps : List yaml_node_pair_t)
    → length (map (λ (p : yaml_node_pair_t). label p.key) ps) ≡ length (map (λ (p : yaml_node_pair_t). p.value) ps)
pairs_many label [] = refl
pairs_many label (p ∷ ps) = ap suc (pairs_many label ps)

pub as_many : (label : ℤ → ℕ) (b : NodeBody) → length (key_labels label b) ≡ length (held_values b)
as_many label node.no = refl
as_many label (node.scalar value style) = refl
as_many label (node.sequence items style) = places_many 0 items
as_many label (node.mapping pairs style) = pairs_many label pairs

pub held_many : (label : ℤ → ℕ) (b : NodeBody) (labels : List ℕ) (values : List ℤ)
    → labels ≡ key_labels label b → values ≡ held_values b → length labels ≡ length values
held_many label b labels values l v = ap length l ∙ as_many label b ∙ ap length (sym v)
