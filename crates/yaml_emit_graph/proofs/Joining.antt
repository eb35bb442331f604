-- A walk of visits is the walk that passes on what follows, and no visit is cut off.
use Rattle.std.proofs.Common.{◌≡◌, ℕ, ◌+◌, ◌<◌, ◌≤◌, List, [], ◌∷◌, ◌++◌, length, false, refl, sym, ◌∙◌, ap, arith, inl, inr, append_assoc, append-nil, Option}
use Rattle.std.specs.Prelude.{zero, suc, ℤ, pos}
use Rattle.std.proofs.lemmas.Bool.{cases_Bool}
use Rattle.std.proofs.lemmas.List.{length-replicate}
use Rattle.yaml_parse_model.specs.declared.yaml_node_pair_t.{yaml_node_pair_t}
use Rattle.yaml_parse_model.specs.Nodes as model
use Rattle.yaml_parse_model.specs.Documents.{seq_tag, map_tag}
use Rattle.yaml_emit_layout.specs.Content.{Node, sequence_node, mapping_node, Nodes, node, Pairs, pair, is_flow_sequence, is_flow_mapping}
use Rattle.yaml_emit_graph.specs.declared.walk.Turn.{Turn}
use Rattle.yaml_emit_graph.specs.declared.walk.Turn.TheVariants.{First, Leave}
use Rattle.yaml_emit_graph.specs.Graph.{Met, place_at, is_met, meet, pair_ids, child_ids, body_of_id, tag_of_id, none_met, Visit, Visits, visit_all, visit_node, walked, leaving, turns_of, turns_in, turns, numbers, number_at, anchor_of, graph_start, two_by_two, with_held, node_said, nodes_said, graph_root, IsWhole, AreWhole}
use Rattle.yaml_emit_graph.specs.Onward.{Rest, over, inside, visits, turns_onward, items_by, pairs_by, node_by, content_by, itself, root_onward}
use Rattle.yaml_emit_graph.specs.Walk.{marked}
use Rattle.yaml_emit_graph.proofs.Walking.{sum_meet_at, length_meet_at, sum_most}

-- ---- a visit marks nodes, and takes no mark away

record Grows (old new : Met) : Type 0 where
  size : length new ≡ length old
  more : marked old ≤ marked new

stays : (met : Met) → Grows met met
stays met = record { size = refl; more = omega arith }

grows_on : (a b c : Met) → Grows a b → Grows b c → Grows a c
grows_on a b c g h = let m = g.more in let n = h.more in record { size = h.size ∙ g.size; more = omega (arith, m, n) }

meets : (met : Met) (id : ℤ) → is_met met id ≡ false → Grows met (meet met id)
meets met id h = let e = sum_meet_at met (place_at id) h in record { size = length_meet_at met (place_at id); more = omega (arith, e) }

all_grow : (one : ℤ → Met → Visit × Met) → ((id : ℤ) (met : Met) → Grows met (one id met).1)
    → (ids : List ℤ) (met : Met) → Grows met (visit_all one ids met).1
unfolding visit_all
all_grow one h [] met = stays met
all_grow one h (id ∷ ids) met = grows_on met (one id met).1 (visit_all one ids (one id met).1).1 (h id met) (all_grow one h ids (one id met).1)

node_grows : (n : ℕ) (nodes : List model.Node) (id : ℤ) (met : Met)
    → Grows met (visit_node n nodes id met).1
unfolding visit_node
node_grows zero nodes id met = stays met
node_grows (suc n) nodes id met = elim (cases_Bool (is_met met id)) [
  | inl e ↦ rw e (stays met)
  | inr e ↦ rw e (grows_on met (meet met id) (visit_all (visit_node n nodes) (child_ids (body_of_id nodes id)) (meet met id)).1 (meets met id e)
      (all_grow (visit_node n nodes) (node_grows n nodes) (child_ids (body_of_id nodes id)) (meet met id)))
]

-- ---- the depth is enough where it is more than the nodes that aren't met

abbrev IsEnough : ℕ → Met → Type 0
IsEnough n met = length met < n + marked met

enough_below : (n : ℕ) (met : Met) (id : ℤ) → is_met met id ≡ false → IsEnough (suc n) met
    → IsEnough n (meet met id)
enough_below n met id e h = let m = sum_meet_at met (place_at id) e in let s = length_meet_at met (place_at id) in omega (arith, h, m, s)

none_enough : (A : Type 0) (met : Met) → IsEnough zero met → A
none_enough A met h = let m = sum_most met in absurd (omega (arith, h, m))

enough_first : (nodes : List model.Node) → IsEnough (suc (length nodes)) (none_met nodes)
enough_first nodes = let e = length-replicate (length nodes) false in omega (arith, e)

behind : (n : ℕ) (nodes : List model.Node) (id : ℤ) (met : Met) → IsEnough n met
    → IsEnough n (visit_node n nodes id met).1
behind n nodes id met h = let s = (node_grows n nodes id met).size in let m = (node_grows n nodes id met).more in omega (arith, h, s, m)

-- ---- no visit is cut off

all_whole : (n : ℕ) (nodes : List model.Node)
    → ((id : ℤ) (met : Met) → IsEnough n met → IsWhole (visit_node n nodes id met).0)
    → (ids : List ℤ) (met : Met) → IsEnough n met
    → AreWhole (visit_all (visit_node n nodes) ids met).0
unfolding visit_all
all_whole n nodes h [] met e = tt
all_whole n nodes h (id ∷ ids) met e = (h id met e, all_whole n nodes h ids (visit_node n nodes id met).1 (behind n nodes id met e))

node_whole : (n : ℕ) (nodes : List model.Node) (id : ℤ) (met : Met) → IsEnough n met
    → IsWhole (visit_node n nodes id met).0
unfolding visit_node
node_whole zero nodes id met h = none_enough _ met h
node_whole (suc n) nodes id met h = elim (cases_Bool (is_met met id)) [
  | inl e ↦ rw e tt
  | inr e ↦ rw e (all_whole n nodes (node_whole n nodes) (child_ids (body_of_id nodes id)) (meet met id) (enough_below n met id e h))
]

-- The walk through a document gives whole nodes, one after another.
pub walk_whole : (nodes : List model.Node) → IsWhole (walked nodes)
unfolding walked
walk_whole nodes = node_whole (suc (length nodes)) nodes (pos 1) (none_met nodes) (enough_first nodes)

-- ---- the turns

abbrev TurnsJoin : ℕ → List model.Node → Type 0
TurnsJoin n nodes = (id : ℤ) (rest : Rest) (met : Met) → IsEnough n met → visits n nodes id rest met ≡ turns_of nodes (visit_node n nodes id met).0 ++ rest (visit_node n nodes id met).1

all_turns : (n : ℕ) (nodes : List model.Node) → TurnsJoin n nodes
    → (ids : List ℤ) (rest : Rest) (met : Met) → IsEnough n met
    → over (visits n nodes) ids rest met ≡ turns_in nodes (visit_all (visit_node n nodes) ids met).0
    ++ rest (visit_all (visit_node n nodes) ids met).1
unfolding over visit_all
all_turns n nodes h [] rest met e = refl
all_turns n nodes h (id ∷ ids) rest met e =
    let r : Visit × Met = visit_node n nodes id met in
    let s : Visits × Met = visit_all (visit_node n nodes) ids r.1 in
    h id (over (visits n nodes) ids rest) met e
    ∙ ap (λ (ts : List Turn). turns_of nodes r.0 ++ ts) (all_turns n nodes h ids rest r.1 (behind n nodes id met e))
    ∙ sym (append_assoc (turns_of nodes r.0) (turns_in nodes s.0) (rest s.1))

inside_turns : (n : ℕ) (nodes : List model.Node) → TurnsJoin n nodes
    → (b : model.NodeBody) (id : ℤ) (rest : Rest) (met : Met) → IsEnough n met
    → inside (visits n nodes) id b rest met
    ≡ turns_in nodes (visit_all (visit_node n nodes) (child_ids b) met).0
    ++ (leaving id b ++ rest (visit_all (visit_node n nodes) (child_ids b) met).1)
unfolding visit_all
inside_turns n nodes h (model.sequence items style) id rest met e = all_turns n nodes h items (λ m. Leave id ∷ rest m) met e
inside_turns n nodes h (model.mapping pairs style) id rest met e = all_turns n nodes h (pair_ids pairs) (λ m. Leave id ∷ rest m) met e
inside_turns n nodes h _ id rest met e = refl

node_turns : (n : ℕ) (nodes : List model.Node) → TurnsJoin n nodes
unfolding visits visit_node
node_turns zero nodes id rest met h = none_enough _ met h
node_turns (suc n) nodes id rest met h = elim (cases_Bool (is_met met id)) [
  | inl e ↦ rw e refl
  | inr e ↦
      let b : model.NodeBody = body_of_id nodes id in
      let s : Visits × Met = visit_all (visit_node n nodes) (child_ids b) (meet met id) in
      rw e (ap (λ (ts : List Turn). First id ∷ ts) (inside_turns n nodes (node_turns n nodes) b id rest (meet met id) (enough_below n met id e h)
      ∙ sym (append_assoc (turns_in nodes s.0) (leaving id b) (rest s.1))))
]

-- What a dump still has to give of its nodes are the walk's turns.
pub turns_joined : (nodes : List model.Node) → turns_onward nodes ≡ turns nodes
unfolding turns turns_onward walked
turns_joined nodes = grind (arith, node_turns, enough_first, append-nil)

-- ---- the content

abbrev ContentJoins : ℕ → List ℕ → List model.Node → Type 0
ContentJoins n table nodes = (id : ℤ) (rest : Node → Met → Node) (met : Met) → IsEnough n met
    → content_by n table nodes id rest met ≡ rest (node_said table nodes (visit_node n nodes id met).0) (visit_node n nodes id met).1

all_items : (n : ℕ) (table : List ℕ) (nodes : List model.Node) → ContentJoins n table nodes
    → (ids : List ℤ) (rest : Nodes → Met → Node) (met : Met) → IsEnough n met
    → items_by (content_by n table nodes) ids rest met
    ≡ rest (nodes_said table nodes (visit_all (visit_node n nodes) ids met).0)
    (visit_all (visit_node n nodes) ids met).1
unfolding items_by visit_all
all_items n table nodes h [] rest met e = refl
all_items n table nodes h (id ∷ ids) rest met e =
    let r : Visit × Met = visit_node n nodes id met in
    h id (λ v m. items_by (content_by n table nodes) ids (λ vs o. rest (node v vs) o) m) met e
    ∙ all_items n table nodes h ids (λ vs o. rest (node (node_said table nodes r.0) vs) o) r.1 (behind n nodes id met e)

all_pairs : (n : ℕ) (table : List ℕ) (nodes : List model.Node) → ContentJoins n table nodes
    → (ps : List yaml_node_pair_t) (rest : Pairs → Met → Node) (met : Met) → IsEnough n met
    → pairs_by (content_by n table nodes) ps rest met
    ≡ rest (two_by_two (nodes_said table nodes
    (visit_all (visit_node n nodes) (pair_ids ps) met).0))
    (visit_all (visit_node n nodes) (pair_ids ps) met).1
unfolding pairs_by visit_all pair_ids
all_pairs n table nodes h [] rest met e = refl
all_pairs n table nodes h (p ∷ ps) rest met e =
    let r : Visit × Met = visit_node n nodes p.key met in
    let s : Visit × Met = visit_node n nodes p.value r.1 in
    let f = behind n nodes p.key met e in
    h p.key (λ k m. content_by n table nodes p.value (λ v o. pairs_by (content_by n table nodes) ps (λ vs q. rest (pair k v vs) q) o) m) met e
    ∙ h p.value (λ v o. pairs_by (content_by n table nodes) ps (λ vs q. rest (pair (node_said table nodes r.0) v vs) q) o) r.1 f
    ∙ all_pairs n table nodes h ps (λ vs q. rest (pair (node_said table nodes r.0) (node_said table nodes s.0) vs) q) s.1 (behind n nodes p.value r.1 f)

held_content : (n : ℕ) (table : List ℕ) (nodes : List model.Node) → ContentJoins n table nodes
    → (b : model.NodeBody) (anchor : Option (List ℕ)) (tag : List ℕ) (rest : Node → Met → Node)
    (met : Met) → IsEnough n met
    → node_by (content_by n table nodes) anchor tag b rest met
    ≡ rest (with_held anchor tag b (nodes_said table nodes
    (visit_all (visit_node n nodes) (child_ids b) met).0))
    (visit_all (visit_node n nodes) (child_ids b) met).1
unfolding visit_all
held_content n table nodes h (model.sequence items style) anchor tag rest met e =
    all_items n table nodes h items (λ vs. rest (sequence_node (graph_start anchor tag seq_tag (is_flow_sequence style)) vs)) met e
held_content n table nodes h (model.mapping pairs style) anchor tag rest met e =
    all_pairs n table nodes h pairs (λ vs. rest (mapping_node (graph_start anchor tag map_tag (is_flow_mapping style)) vs)) met e
held_content n table nodes h _ anchor tag rest met e = refl

node_content : (n : ℕ) (table : List ℕ) (nodes : List model.Node) → ContentJoins n table nodes
unfolding content_by visit_node
node_content zero table nodes id rest met h = none_enough _ met h
node_content (suc n) table nodes id rest met h = elim (cases_Bool (is_met met id)) [
  | inl e ↦ rw e refl
  | inr e ↦ rw e (held_content n table nodes (node_content n table nodes) (body_of_id nodes id) (anchor_of (number_at table id)) (tag_of_id nodes id) rest (meet met id) (enough_below n met id e h))
]

-- The root's events that a dump has left over are those of the graph's root.
pub root_joined : (nodes : List model.Node) → root_onward nodes ≡ graph_root nodes
unfolding graph_root root_onward walked
root_joined nodes = node_content (suc (length nodes)) (numbers nodes) nodes (pos 1) itself (none_met nodes) (enough_first nodes)
