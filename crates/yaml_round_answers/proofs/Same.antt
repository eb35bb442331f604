-- The walk over a document is that over the records that show it.
use Rattle.std.proofs.Common.{◌≡◌, ℕ, length, List, [], ◌∷◌, ◌++◌, refl, ap, ◌∙◌, map}
use Rattle.std.specs.Prelude.{zero, suc, ℤ, pos, negsuc, false, replicate, if◌then◌else◌}
use Rattle.yaml_parse_model.specs.Nodes.{Node, NodeBody}
use Rattle.yaml_parse_model.specs.Nodes as node
use Rattle.yaml_parse_model.specs.Documents.{Document}
use Rattle.yaml_emit_graph.specs.declared.Turn.{Turn}
use Rattle.yaml_emit_graph.specs.declared.Turn.TheVariants as graph_turn
use Rattle.yaml_emit_graph.specs.Graph.{Met, is_met, meet, place_at, child_ids, is_collection, body_of_id, Visit, cut_off, met_again, met_first, Visits, no_visits, visit, visit_all, visit_node, and_then, first_with, walked, leaving, turns_of, turns_in, turns, numbered, none_numbered, numbers, number_at, none_met, turn_event, graph_opening}
use Rattle.yaml_emit_graph.specs.emit_layout.Content.{document_start, document_end}
use Rattle.yaml_emit_graph.proofs.Contents.{dumped_turns}
use Rattle.yaml_emit_graph.proofs.Joining.{turns_joined}
use Rattle.yaml_round_answers.specs.declared.graph_record.yaml_c_node.{yaml_c_node}
use Rattle.yaml_round_answers.specs.declared.graph_record.yaml_c_graph.{yaml_c_graph}
use Rattle.yaml_round_answers.specs.declared.graph_record.yaml_c_turn.{yaml_c_turn}
use Rattle.yaml_round_answers.specs.Graphs.{holds, held_by, body_if, stand_in, stand_ins, kind_of, kind_at, kind_in, record_in, ShowsNodeRecord, ShowNodes, Shows}
use Rattle.yaml_round_answers.specs.Turns.{turn_told, node_kind, turn_by, turns_by, TellsTurns, opening_kind, closing_kind}
use Rattle.yaml_round_answers.proofs.Showing.{ids_held, is_held}

-- ---- nodes that hold the same

-- as many nodes, each of which holds the same numbers as the other one under its number, and is a collection where that is one
record Alike (ns ms : List Node) : Type 0 where
  count : length ns ≡ length ms
  ids : (id : ℤ) → child_ids (body_of_id ns id) ≡ child_ids (body_of_id ms id)
  kinds : (id : ℤ) → is_collection (body_of_id ns id) ≡ is_collection (body_of_id ms id)

all_same : (f g : ℤ → Met → Visit × Met) → ((id : ℤ) (m : Met) → f id m ≡ g id m)
    → (ids : List ℤ) (m : Met) → visit_all f ids m ≡ visit_all g ids m
unfolding visit_all
all_same f g h [] m = refl
all_same f g h (id ∷ ids) m =
    ap (λ r. and_then r (visit_all f ids)) (h id m)
    ∙ ap (λ (z : Visits × Met). (visit (g id m).0 z.0, z.1)) (all_same f g h ids (g id m).1)

node_same : (n : ℕ) (ns ms : List Node)
    → ((id : ℤ) → child_ids (body_of_id ns id) ≡ child_ids (body_of_id ms id))
    → (id : ℤ) (m : Met) → visit_node n ns id m ≡ visit_node n ms id m
unfolding visit_node
node_same zero ns ms h id m = refl
node_same (suc n) ns ms h id m =
    ap (λ z. if is_met m id then (met_again id, m) else first_with id z)
    (ap (λ z. visit_all (visit_node n ns) z (meet m id)) (h id)
    ∙ all_same (visit_node n ns) (visit_node n ms) (node_same n ns ms h) (child_ids (body_of_id ms id)) (meet m id))

walked_same : (ns ms : List Node) → Alike ns ms → walked ns ≡ walked ms
unfolding walked
walked_same ns ms h =
    ap (λ (z : Visit × Met). z.0) (node_same (suc (length ns)) ns ms h.ids (pos 1) (none_met ns))
    ∙ ap (λ (k : ℕ). (visit_node (suc k) ms (pos 1) (replicate k false)).0) h.count

leaving_same : (b c : NodeBody) (id : ℤ) → is_collection b ≡ is_collection c
    → leaving id b ≡ leaving id c
leaving_same b c id h = ap (λ z. if z then graph_turn.Leave id ∷ [] else []) h

mutual
  turn_same : (ns ms : List Node) → ((id : ℤ) → is_collection (body_of_id ns id) ≡ is_collection (body_of_id ms id))
      → (v : Visit) → turns_of ns v ≡ turns_of ms v
  turn_same ns ms h cut_off = refl
  turn_same ns ms h (met_again id) = refl
  turn_same ns ms h (met_first id vs) =
      ap (λ z. graph_turn.First id ∷ (z ++ leaving id (body_of_id ns id))) (turns_same ns ms h vs)
      ∙ ap (λ z. graph_turn.First id ∷ (turns_in ms vs ++ z)) (leaving_same (body_of_id ns id) (body_of_id ms id) id (h id))

  turns_same : (ns ms : List Node) → ((id : ℤ) → is_collection (body_of_id ns id) ≡ is_collection (body_of_id ms id))
      → (vs : Visits) → turns_in ns vs ≡ turns_in ms vs
  turns_same ns ms h no_visits = refl
  turns_same ns ms h (visit v vs) =
      ap (λ z. z ++ turns_in ns vs) (turn_same ns ms h v) ∙ ap (λ z. turns_of ms v ++ z) (turns_same ns ms h vs)

turns_alike : (ns ms : List Node) → Alike ns ms → turns ns ≡ turns ms
unfolding turns
turns_alike ns ms h = turn_same ns ms h.kinds (walked ns) ∙ ap (turns_of ms) (walked_same ns ms h)

numbers_alike : (ns ms : List Node) → Alike ns ms → numbers ns ≡ numbers ms
unfolding numbers
numbers_alike ns ms h =
    ap (λ z. (numbered (none_numbered (length ns)) z).table) (turns_alike ns ms h)
    ∙ ap (λ (k : ℕ). (numbered (none_numbered k) (turns ms)).table) h.count

-- ---- records that show nodes

-- a record's kind is that of a collection where the node is one
kind_holds : (b : NodeBody) → holds (kind_of b) ≡ is_collection b
unfolding holds
kind_holds node.no = refl
kind_holds (node.scalar value style) = refl
kind_holds (node.sequence items style) = refl
kind_holds (node.mapping pairs style) = refl

-- what is so of each record and its node, by number: of none too
each : (P : NodeBody → NodeBody → Type 0) (list : List ℤ) → P node.no node.no
    → ((r : yaml_c_node) (n : Node) → ShowsNodeRecord list r n → P (body_if (holds r.kind) (held_by list r)) n.body)
    → (rs : List yaml_c_node) (ns : List Node) → ShowNodes list rs ns
    → (id : ℤ) → P (body_of_id (map (stand_in list) rs) id) (body_of_id ns id)
each P list p f [] [] s (pos zero) = p
each P list p f [] [] s (pos (suc k)) = p
each P list p f [] [] s (negsuc n) = p
each P list p f (r ∷ rs) (n ∷ ns) s (pos zero) = p
each P list p f (r ∷ rs) (n ∷ ns) s (pos (suc zero)) = f r n s.0
each P list p f (r ∷ rs) (n ∷ ns) s (pos (suc (suc k))) = each P list p f rs ns s.1 (pos (suc k))
each P list p f (r ∷ rs) (n ∷ ns) s (negsuc m) = p
each P list p f [] (n ∷ ns) s id = absurd s
each P list p f (r ∷ rs) [] s id = absurd s

counted : (list : List ℤ) (rs : List yaml_c_node) (ns : List Node) → ShowNodes list rs ns
    → length (map (stand_in list) rs) ≡ length ns
counted list [] [] s = refl
counted list (r ∷ rs) (n ∷ ns) s = ap suc (counted list rs ns s.1)
counted list [] (n ∷ ns) s = absurd s
counted list (r ∷ rs) [] s = absurd s

shown_alike : (list : List ℤ) (rs : List yaml_c_node) (ns : List Node) → ShowNodes list rs ns
    → Alike (map (stand_in list) rs) ns
shown_alike list rs ns s = record {
  count = counted list rs ns s;
  ids = each (λ b c. child_ids b ≡ child_ids c) list refl (λ r n h. ids_held list r ∙ h.held) rs ns s;
  kinds = each (λ b c. is_collection b ≡ is_collection c) list refl
      (λ r n h. is_held (holds r.kind) (held_by list r) ∙ ap holds h.kind ∙ kind_holds n.body) rs ns s;
}

-- the kinds of the nodes are those of the records
kinds_shown : (list : List ℤ) (rs : List yaml_c_node) (ns : List Node) → ShowNodes list rs ns
    → (id : ℤ) → kind_in (record_in rs (place_at id)) ≡ kind_of (body_of_id ns id)
kinds_shown list [] [] s (pos zero) = refl
kinds_shown list [] [] s (pos (suc k)) = refl
kinds_shown list [] [] s (negsuc n) = refl
kinds_shown list (r ∷ rs) (n ∷ ns) s (pos zero) = refl
kinds_shown list (r ∷ rs) (n ∷ ns) s (pos (suc zero)) = s.0.kind
kinds_shown list (r ∷ rs) (n ∷ ns) s (pos (suc (suc k))) = kinds_shown list rs ns s.1 (pos (suc k))
kinds_shown list (r ∷ rs) (n ∷ ns) s (negsuc m) = refl
kinds_shown list [] (n ∷ ns) s id = absurd s
kinds_shown list (r ∷ rs) [] s id = absurd s

turn_shown : (f g : ℤ → ℤ) (table : List ℕ) → ((id : ℤ) → f id ≡ g id) → (t : Turn)
    → turn_told f table t ≡ turn_told g table t
turn_shown f g table h (graph_turn.First id) = ap (λ k. let r : yaml_c_turn = record { kind = opening_kind k; node = id; number = number_at table id } in r) (h id)
turn_shown f g table h (graph_turn.Again id) = refl
turn_shown f g table h (graph_turn.Leave id) = ap (λ k. let r : yaml_c_turn = record { kind = closing_kind k; node = id; number = 0 } in r) (h id)

map_shown : (f g : Turn → yaml_c_turn) → ((t : Turn) → f t ≡ g t) → (ts : List Turn)
    → map f ts ≡ map g ts
map_shown f g h [] = refl
map_shown f g h (t ∷ ts) = ap (λ z. z ∷ map f ts) (h t) ∙ ap (λ z. g t ∷ z) (map_shown f g h ts)

-- the turns by the records are those of each document that they show
pub tells_turns : (g : yaml_c_graph) (given : List yaml_c_turn) (d : Document) → Shows g d.nodes
    → given ≡ turns_by g → TellsTurns d given
tells_turns g given d s is =
    let same = shown_alike g.held.now g.nodes.now d.nodes s in
    record {
      told = is
          ∙ ap (λ z. map (turn_by g z) (turns (stand_ins g))) (numbers_alike (stand_ins g) d.nodes same)
          ∙ ap (map (turn_by g (numbers d.nodes))) (turns_alike (stand_ins g) d.nodes same)
          ∙ map_shown (turn_by g (numbers d.nodes)) (turn_told (node_kind d.nodes) (numbers d.nodes))
          (turn_shown (kind_at g) (node_kind d.nodes) (numbers d.nodes) (kinds_shown g.held.now g.nodes.now d.nodes s)) (turns d.nodes);
      events = dumped_turns d ∙ ap (λ z. document_start (graph_opening d) ∷ (map (turn_event (numbers d.nodes) d.nodes) z ++ document_end d.end_implicit ∷ [])) (turns_joined d.nodes);
    }
