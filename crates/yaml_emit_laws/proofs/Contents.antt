-- Nothing is wrong with the events of what a document says.
use Rattle.std.proofs.Common.{subst, ◌≡◌, ◌<◌, ℕ, zero, suc, ℤ, pos, Bool, List, [], ◌∷◌, length, map, Option, Some, None, refl, inl, inr, arith, slice_get}
use Rattle.yaml_emit_laws.proofs.DumpsWords.{nat_tests, cases_Bool, YAML_ANY_SCALAR_STYLE, yaml_sequence_style_t, yaml_mapping_style_t, yaml_node_pair_t, seq_tag, map_tag, alias_node, scalar_node, sequence_node, mapping_node, Nodes, no_nodes, node, Pairs, no_pairs, pair, Event, document_start, document_end, sequence_end, mapping_end, is_flow_sequence, is_flow_mapping, node_events, items_events, pairs_events, documents_events, kept_if, anchor_problem, tag_problem, event_problem, last_problem, own_problems, Met, is_met, meet, body_of_id, tag_at, tag_of_id, number_at, numbers, name_of, anchor_of, graph_scalar, graph_start, graph_root, graph_content, none_met, dumped, items_by, pairs_by, node_by, content_by, itself, root_onward, root_joined, AreTagged, RightDocument, AreRight, DumpsAreRight, DumpedStreamsAreRight}
use Rattle.yaml_emit_graph.specs.scan_model.declared.name.yaml_scalar_style_t.{yaml_scalar_style_t}
use Rattle.yaml_emit_graph.specs.emit_layout.parse_model.Nodes as model
use Rattle.yaml_parse_laws_trees.specs.parse_model.Documents as documents
use Rattle.yaml_emit_graph.specs.emit_layout.declared.Problem.TheVariants as problem
use Rattle.yaml_emit_graph.specs.emit_layout.Content.{Node}
use Rattle.yaml_emit_laws.proofs.Passing.{or_none}
use Rattle.yaml_emit_laws.proofs.Naming.{not_zero, name_right, anchor_right}

-- ---- nodes with which nothing is wrong, before any such events

record RightNode (canonical : Bool) (v : Node) : Type 0 where
  front : (es : List Event) → own_problems canonical es ≡ None
      → own_problems canonical (node_events v es) ≡ None

record RightNodes (canonical : Bool) (vs : Nodes) : Type 0 where
  front : (es : List Event) → own_problems canonical es ≡ None
      → own_problems canonical (items_events vs es) ≡ None

record RightPairs (canonical : Bool) (ps : Pairs) : Type 0 where
  front : (es : List Event) → own_problems canonical es ≡ None
      → own_problems canonical (pairs_events ps es) ≡ None

-- an anchor that is a name, if there is one, and a tag
record Named (anchor : Option (List ℕ)) (tag : List ℕ) : Type 0 where
  anchored : anchor_problem anchor ≡ None
  tagged : 0 < length tag

tag_right : (kept : Bool) (tag : List ℕ) → 0 < length tag
    → tag_problem (kept_if kept (Some tag)) ≡ None
tag_right kept tag h = grind (arith, nat_tests, not_zero)

scalar_right : (canonical : Bool) (anchor : Option (List ℕ)) (tag value : List ℕ)
    (style : yaml_scalar_style_t) → Named anchor tag
    → RightNode canonical (scalar_node (graph_scalar anchor tag value style))
unfolding node_events own_problems event_problem last_problem
scalar_right canonical anchor tag value style n = record { front = λ es h. or_none _ _ (or_none _ _ (or_none _ _ n.anchored (tag_right _ tag n.tagged)) refl) h }

sequence_right : (canonical : Bool) (anchor : Option (List ℕ)) (tag default : List ℕ) (flow : Bool)
    (vs : Nodes) → Named anchor tag → RightNodes canonical vs
    → RightNode canonical (sequence_node (graph_start anchor tag default flow) vs)
unfolding node_events own_problems event_problem last_problem
sequence_right canonical anchor tag default flow vs n r =
    record { front = λ es h. or_none _ _ (or_none _ _ (or_none _ _ n.anchored (tag_right _ tag n.tagged)) refl) (r.front (sequence_end ∷ es) h) }

-- ---- the walk: what holds of all parts holds of what is made of them

-- Predicates that a node, nodes and pairs have where their parts do; of anchor, tag and body of a document's node something is known.
pub record Closed (P : Node → Type 0) (Q : Nodes → Type 0) (R : Pairs → Type 0) (F : Option (List ℕ) → List ℕ → model.NodeBody → Type 0) : Type 0 where
  pub alias : (n : ℕ) → P (alias_node (name_of n))
  pub none : Q no_nodes
  pub more : (v : Node) (vs : Nodes) → P v → Q vs → Q (node v vs)
  pub empty : R no_pairs
  pub another : (k v : Node) (ps : Pairs) → P k → P v → R ps → R (pair k v ps)
  pub bare : (anchor : Option (List ℕ)) (tag : List ℕ) → F anchor tag model.no
      → P (scalar_node (graph_scalar anchor tag [] YAML_ANY_SCALAR_STYLE))
  pub scalar : (anchor : Option (List ℕ)) (tag value : List ℕ) (style : yaml_scalar_style_t)
      → F anchor tag (model.scalar value style)
      → P (scalar_node (graph_scalar anchor tag value style))
  pub sequence : (anchor : Option (List ℕ)) (tag : List ℕ) (items : List ℤ)
      (style : yaml_sequence_style_t) → F anchor tag (model.sequence items style)
      → (vs : Nodes) → Q vs
      → P (sequence_node (graph_start anchor tag seq_tag (is_flow_sequence style)) vs)
  pub mapping : (anchor : Option (List ℕ)) (tag : List ℕ) (pairs : List yaml_node_pair_t)
      (style : yaml_mapping_style_t) → F anchor tag (model.mapping pairs style)
      → (ps : Pairs) → R ps
      → P (mapping_node (graph_start anchor tag map_tag (is_flow_mapping style)) ps)

-- a visit keeps a predicate of nodes, whatever is made of them
abbrev Visits : (Node → Type 0) → (ℤ → (Node → Met → Node) → Met → Node) → Type 0
Visits P visit = (id : ℤ) (rest : Node → Met → Node) (met : Met) → ((v : Node) (m : Met) → P v → P (rest v m)) → P (visit id rest met)

module _ (P : Node → Type 0) (Q : Nodes → Type 0) (R : Pairs → Type 0) (F : Option (List ℕ) → List ℕ → model.NodeBody → Type 0) (c : Closed P Q R F) where
  items_hold : (visit : ℤ → (Node → Met → Node) → Met → Node) → Visits P visit → (ids : List ℤ)
      (rest : Nodes → Met → Node) (met : Met) → ((vs : Nodes) (m : Met) → Q vs → P (rest vs m))
      → P (items_by visit ids rest met)
  unfolding items_by
  items_hold visit w [] rest met k = k no_nodes met c.none
  items_hold visit w (id ∷ ids) rest met k =
      w id (λ v m. items_by visit ids (λ vs n. rest (node v vs) n) m) met
      (λ v m a. items_hold visit w ids (λ vs n. rest (node v vs) n) m (λ vs n b. k (node v vs) n (c.more v vs a b)))

  pairs_hold : (visit : ℤ → (Node → Met → Node) → Met → Node) → Visits P visit
      → (ids : List yaml_node_pair_t) (rest : Pairs → Met → Node) (met : Met)
      → ((ps : Pairs) (m : Met) → R ps → P (rest ps m)) → P (pairs_by visit ids rest met)
  unfolding pairs_by
  pairs_hold visit w [] rest met k = k no_pairs met c.empty
  pairs_hold visit w (p ∷ ids) rest met k =
      w p.key (λ x m. visit p.value (λ v n. pairs_by visit ids (λ vs o. rest (pair x v vs) o) n) m) met
      (λ x m a. w p.value (λ v n. pairs_by visit ids (λ vs o. rest (pair x v vs) o) n) m
      (λ v n b. pairs_hold visit w ids (λ vs o. rest (pair x v vs) o) n (λ vs o d. k (pair x v vs) o (c.another x v vs a b d))))

  made_holds : (visit : ℤ → (Node → Met → Node) → Met → Node) → Visits P visit
      → (anchor : Option (List ℕ)) (tag : List ℕ) (body : model.NodeBody)
      (rest : Node → Met → Node) (met : Met) → F anchor tag body
      → ((v : Node) (m : Met) → P v → P (rest v m)) → P (node_by visit anchor tag body rest met)
  made_holds visit w anchor tag model.no rest met f k = k _ met (c.bare anchor tag f)
  made_holds visit w anchor tag (model.scalar value style) rest met f k = k _ met (c.scalar anchor tag value style f)
  made_holds visit w anchor tag (model.sequence items style) rest met f k =
      items_hold visit w items (λ vs. rest (sequence_node (graph_start anchor tag seq_tag (is_flow_sequence style)) vs)) met (λ vs m r. k _ m (c.sequence anchor tag items style f vs r))
  made_holds visit w anchor tag (model.mapping pairs style) rest met f k =
      pairs_hold visit w pairs (λ vs. rest (mapping_node (graph_start anchor tag map_tag (is_flow_mapping style)) vs)) met (λ vs m r. k _ m (c.mapping anchor tag pairs style f vs r))

  content_holds : (n : ℕ) (table : List ℕ) (nodes : List model.Node)
      → ((k : ℕ) (id : ℤ) → F (anchor_of k) (tag_of_id nodes id) (body_of_id nodes id))
      → Visits P (content_by n table nodes)
  unfolding content_by
  content_holds zero table nodes h id rest met k = k (alias_node (name_of (number_at table id))) met (c.alias (number_at table id))
  content_holds (suc n) table nodes h id rest met k = elim (cases_Bool (is_met met id)) [
    | inl e ↦ rw e (k (alias_node (name_of (number_at table id))) met (c.alias (number_at table id)))
    | inr e ↦ rw e (made_holds (content_by n table nodes) (content_holds n table nodes h) (anchor_of (number_at table id)) (tag_of_id nodes id) (body_of_id nodes id) rest (meet met id) (h (number_at table id) id) k)
  ]

  -- The root of what a document says has them.
  pub root_holds : (nodes : List model.Node)
      → ((k : ℕ) (id : ℤ) → F (anchor_of k) (tag_of_id nodes id) (body_of_id nodes id))
      → P (graph_root nodes)
  unfolding root_onward
  root_holds nodes h = subst (λ (v : Node). P v) (root_joined nodes) (content_holds (suc (length nodes)) (numbers nodes) nodes h (pos 1) itself (none_met nodes) (λ v m r. r))

-- ---- the tags of a document

found_tagged : (nodes : List model.Node) (k : ℕ) → AreTagged nodes
    → 0 < length (tag_at (slice_get nodes k))
found_tagged [] k h = omega arith
found_tagged (n ∷ ns) zero h = h.0
found_tagged (n ∷ ns) (suc k) h = found_tagged ns k h.1

tagged : (nodes : List model.Node) (id : ℤ) → AreTagged nodes → 0 < length (tag_of_id nodes id)
tagged nodes (pos (suc k)) h = found_tagged nodes k h
tagged nodes _ h = omega arith

root_right : (canonical : Bool) (nodes : List model.Node) → AreTagged nodes
    → RightNode canonical (graph_root nodes)
unfolding items_events pairs_events node_events own_problems event_problem last_problem
root_right canonical nodes h = root_holds (RightNode canonical) (RightNodes canonical) (RightPairs canonical) (λ anchor tag body. Named anchor tag)
    (record {
      alias = λ n. record { front = λ es h. or_none _ _ (or_none _ _ (name_right problem.AliasEmpty problem.AliasCharacters n) refl) h };
      none = record { front = λ es h. h };
      more = λ v vs a b. record { front = λ es h. a.front (items_events vs es) (b.front es h) };
      empty = record { front = λ es h. h };
      another = λ k v ps a b c. record { front = λ es h. a.front (node_events v (pairs_events ps es)) (b.front (pairs_events ps es) (c.front es h)) };
      bare = λ anchor tag n. scalar_right canonical anchor tag [] YAML_ANY_SCALAR_STYLE n;
      scalar = λ anchor tag value style n. scalar_right canonical anchor tag value style n;
      sequence = λ anchor tag items style n vs r. sequence_right canonical anchor tag seq_tag (is_flow_sequence style) vs n r;
      mapping = λ anchor tag pairs style n ps r. (record { front = λ es h. or_none _ _ (or_none _ _ (or_none _ _ n.anchored (tag_right _ tag n.tagged)) refl) (r.front (mapping_end ∷ es) h) });
    }) nodes (λ k id. record { anchored = anchor_right k; tagged = tagged nodes id h })

-- ---- documents

document_right : (canonical : Bool) (d : documents.Document) (es : List Event) → RightDocument d
    → own_problems canonical es ≡ None
    → own_problems canonical (document_start (graph_content d).opening
    ∷ node_events (graph_content d).root (document_end d.end_implicit ∷ es)) ≡ None
unfolding own_problems event_problem last_problem
document_right canonical d es r h = or_none _ _ r.opening ((root_right canonical d.nodes r.tags).front (document_end d.end_implicit ∷ es) h)

pub dumps : DumpsAreRight
unfolding dumped own_problems
dumps canonical d r = document_right canonical d [] r refl

documents_right : (canonical : Bool) (ds : List documents.Document) → AreRight ds
    → own_problems canonical (documents_events (map graph_content ds)) ≡ None
unfolding documents_events own_problems event_problem last_problem
documents_right canonical [] r = refl
documents_right canonical (d ∷ ds) r = document_right canonical d (documents_events (map graph_content ds)) r.0 (documents_right canonical ds r.1)

pub dumped_streams : DumpedStreamsAreRight
unfolding own_problems event_problem last_problem
dumped_streams canonical x ds r = documents_right canonical ds r
