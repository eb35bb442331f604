-- The events of a dump are those of the walk.
use Rattle.std.proofs.Common.{◌≡◌, ℕ, List, [], ◌∷◌, ◌++◌, length, map, refl, sym, ◌∙◌, ap, inl, inr, Option}
use Rattle.std.proofs.lemmas.Bool.{cases_Bool}
use Rattle.std.specs.Prelude.{zero, suc, ℤ, pos}
use Rattle.yaml_parse_model.specs.declared.yaml_node_pair_t.{yaml_node_pair_t}
use Rattle.yaml_parse_model.specs.Nodes as model
use Rattle.yaml_parse_model.specs.Documents.{Document, seq_tag, map_tag}
use Rattle.yaml_emit_layout.specs.Content.{Node, Nodes, Pairs, node, pair, no_nodes, no_pairs, Event, document_start, document_end, node_events, items_events, pairs_events, sequence_start, mapping_start, is_flow_sequence, is_flow_mapping}
use Rattle.yaml_emit_graph.specs.declared.walk.Turn.{Turn}
use Rattle.yaml_emit_graph.specs.declared.walk.Turn.TheVariants.{Leave}
use Rattle.yaml_emit_graph.specs.Graph.{Met, is_met, meet, pair_ids, body_of_id, tag_of_id, none_met, numbers, number_at, anchor_of, graph_start, opening_event, closing_event, turn_event, graph_opening, dumped}
use Rattle.yaml_emit_graph.specs.Onward.{Rest, over, inside, visits, nothing_left, items_by, pairs_by, node_by, content_by, itself, turns_onward, root_onward}
use Rattle.yaml_emit_graph.proofs.Joining.{root_joined}

abbrev emitter_events : List ℕ → List model.Node → List Event → List Turn → List Event
emitter_events table nodes es ts = map (turn_event table nodes) ts ++ es

-- the content that one visit gives is that which another one's turns say
abbrev Follows : (List Turn → List Event) → (ℤ → (Node → Met → Node) → Met → Node)
    → (ℤ → Rest → Rest) → Type 0
Follows says content turning = (id : ℤ) (met : Met) (k : Node → Met → Node) (r : Rest) (g : Node → List Event) (f : List Event → List Event)
    → ((v : Node) (m : Met) → g (k v m) ≡ f (node_events v (says (r m)))) → g (content id k met) ≡ f (says (turning id r met))

items_follow : (says : List Turn → List Event) (content : ℤ → (Node → Met → Node) → Met → Node)
    (turning : ℤ → Rest → Rest) → Follows says content turning
    → (ids : List ℤ) (k : Nodes → Met → Node) (r : Rest) (g : Node → List Event)
    (f : List Event → List Event) (met : Met)
    → ((vs : Nodes) (m : Met) → g (k vs m) ≡ f (items_events vs (says (r m))))
    → g (items_by content ids k met) ≡ f (says (over turning ids r met))
unfolding items_by over items_events
items_follow says content turning p [] k r g f met h = h no_nodes met
items_follow says content turning p (id ∷ ids) k r g f met h =
    p id met (λ v m. items_by content ids (λ vs n. k (node v vs) n) m) (over turning ids r) g f
    (λ v m. items_follow says content turning p ids (λ vs n. k (node v vs) n) r g (λ t. f (node_events v t)) m (λ vs n. h (node v vs) n))

pairs_follow : (says : List Turn → List Event) (content : ℤ → (Node → Met → Node) → Met → Node)
    (turning : ℤ → Rest → Rest) → Follows says content turning
    → (ps : List yaml_node_pair_t) (k : Pairs → Met → Node) (r : Rest) (g : Node → List Event)
    (f : List Event → List Event) (met : Met)
    → ((vs : Pairs) (m : Met) → g (k vs m) ≡ f (pairs_events vs (says (r m))))
    → g (pairs_by content ps k met) ≡ f (says (over turning (pair_ids ps) r met))
unfolding pairs_by over pairs_events pair_ids
pairs_follow says content turning p [] k r g f met h = h no_pairs met
pairs_follow says content turning p (x ∷ xs) k r g f met h =
    p x.key met (λ u m. content x.value (λ v n. pairs_by content xs (λ vs o. k (pair u v vs) o) n) m) (turning x.value (over turning (pair_ids xs) r)) g f
    (λ u m. p x.value m (λ v n. pairs_by content xs (λ vs o. k (pair u v vs) o) n) (over turning (pair_ids xs) r) g (λ t. f (node_events u t))
    (λ v n. pairs_follow says content turning p xs (λ vs o. k (pair u v vs) o) r g (λ t. f (node_events u (node_events v t))) n (λ vs o. h (pair u v vs) o)))

node_follows : (table : List ℕ) (nodes : List model.Node) (es : List Event)
    (content : ℤ → (Node → Met → Node) → Met → Node) (turning : ℤ → Rest → Rest)
    → Follows (emitter_events table nodes es) content turning
    → (b : model.NodeBody) (id : ℤ) (anchor : Option (List ℕ)) (tag : List ℕ) (met : Met)
    (k : Node → Met → Node) (r : Rest) (g : Node → List Event) (f : List Event → List Event)
    → body_of_id nodes id ≡ b
    → ((v : Node) (m : Met) → g (k v m) ≡ f (node_events v (emitter_events table nodes es (r m))))
    → g (node_by content anchor tag b k met)
    ≡ f (opening_event anchor tag b ∷ emitter_events table nodes es (inside turning id b r met))
unfolding node_events turn_event
node_follows table nodes es content turning p model.no id anchor tag met k r g f e h = h _ met
node_follows table nodes es content turning p (model.scalar value style) id anchor tag met k r g f e h = h _ met
node_follows table nodes es content turning p (model.sequence items style) id anchor tag met k r g f e h =
    items_follow (emitter_events table nodes es) content turning p items _ (λ m. Leave id ∷ r m) g (λ t. f (sequence_start (graph_start anchor tag seq_tag (is_flow_sequence style)) ∷ t)) met
    (λ vs m. h _ m ∙ ap (λ z. f (sequence_start (graph_start anchor tag seq_tag (is_flow_sequence style)) ∷ items_events vs (z ∷ emitter_events table nodes es (r m)))) (sym (ap closing_event e)))
node_follows table nodes es content turning p (model.mapping pairs style) id anchor tag met k r g f e h =
    pairs_follow (emitter_events table nodes es) content turning p pairs _ (λ m. Leave id ∷ r m) g (λ t. f (mapping_start (graph_start anchor tag map_tag (is_flow_mapping style)) ∷ t)) met
    (λ vs m. h _ m ∙ ap (λ z. f (mapping_start (graph_start anchor tag map_tag (is_flow_mapping style)) ∷ pairs_events vs (z ∷ emitter_events table nodes es (r m)))) (sym (ap closing_event e)))

visit_follows : (n : ℕ) (table : List ℕ) (nodes : List model.Node) (es : List Event)
    → Follows (emitter_events table nodes es) (content_by n table nodes) (visits n nodes)
unfolding content_by visits node_events turn_event
visit_follows zero table nodes es = λ id met k r g f h. h _ met
visit_follows (suc n) table nodes es = λ id met k r g f h.
    elim (cases_Bool (is_met met id)) [
      | inl e ↦ rw e (h _ met)
      | inr e ↦ rw e (node_follows table nodes es (content_by n table nodes) (visits n nodes) (visit_follows n table nodes es) (body_of_id nodes id) id (anchor_of (number_at table id)) (tag_of_id nodes id) (meet met id) k r g f refl h)
    ]

-- the events of a dump are the document's start, those of the turns of the walk, and the document's end
pub dumped_turns : (d : Document)
    → dumped d ≡ document_start (graph_opening d)
    ∷ (map (turn_event (numbers d.nodes) d.nodes) (turns_onward d.nodes)
    ++ document_end d.end_implicit ∷ [])
unfolding dumped root_onward turns_onward
dumped_turns d =
    let es : List Event = document_end d.end_implicit ∷ [] in
    ap (λ z. document_start (graph_opening d) ∷ z)
    (ap (λ v. node_events v es) (sym (root_joined d.nodes))
    ∙ visit_follows (suc (length d.nodes)) (numbers d.nodes) d.nodes es (pos 1) (none_met d.nodes) itself nothing_left (λ v. node_events v es) (λ t. t) (λ v m. refl))
