-- What the tree of a node says is numbered as what the node says.
use Rattle.std.proofs.Common.{◌≡◌, ℕ, suc, ℤ, pos, List, [], ◌∷◌, length, map, Option, Some, None, Result, Ok, Err, refl, ap, ◌∙◌, arith}
use Rattle.yaml_round_content.proofs.Words.{◌+◌, ◌++◌, slice_get, YAML_ANY_SEQUENCE_STYLE, YAML_ANY_MAPPING_STYLE, yaml_node_pair_t, zero_mark, Fault, document_of, VisitsInPreorder, again, first, graph_content, tree_of, trees_of, pair_trees_of, document_tree, written_node, written_nodes, written_pairs, Loads, in_front, as_content, as_contents, as_pairs, IsLoadedDocument, loader_content, load_of, load_each, trees_of_dumps, loaded_again, DumpsAreNumberedBack, Anchored, Numbered, ◌>>=◌, and_node, number, number_items, number_pairs, sequence_node, mapping_node, head_of, core_document, DumpsNumberBack}
use Rattle.yaml_parse_model.specs.Nodes as model
use Rattle.yaml_parse_model.specs.Documents as documents
use Rattle.yaml_emit_laws.specs.emit_layout.Content as emit
use Rattle.yaml_emit_laws.specs.Dumps.{core_node}

scalar_numbered : (x : emit.Scalar) (count : ℕ) (before : Anchored) (tag : Option (List ℕ))
    → x.tag ≡ tag
    → number (as_content (written_node (tree_of (emit.scalar_node x)))) count before
    ≡ number (as_content (emit.scalar_node x)) count before
unfolding number
scalar_numbered x count before None e = rw e refl
scalar_numbered x count before (Some t) e = rw e refl

mutual
  unfolding number number_items number_pairs

  node_numbered : (n : emit.Node) (count : ℕ) (before : Anchored)
      → number (as_content (written_node (tree_of n))) count before
      ≡ number (as_content n) count before
  node_numbered (emit.alias_node name) count before = refl
  node_numbered (emit.scalar_node x) count before = scalar_numbered x count before x.tag refl
  node_numbered (emit.sequence_node q items) count before = λ i.
      items_numbered items (suc count) (and_node q.anchor (pos (suc count)) before) i >>= (λ r.
      Ok (record { number = pos (suc count); nodes = sequence_node (head_of q.anchor q.tag) r.number YAML_ANY_SEQUENCE_STYLE zero_mark ∷ r.nodes; before = r.before }))
  node_numbered (emit.mapping_node q pairs) count before = λ i.
      pairs_numbered pairs (suc count) (and_node q.anchor (pos (suc count)) before) i >>= (λ r.
      Ok (record { number = pos (suc count); nodes = mapping_node (head_of q.anchor q.tag) r.number YAML_ANY_MAPPING_STYLE zero_mark ∷ r.nodes; before = r.before }))

  items_numbered : (ns : emit.Nodes) (count : ℕ) (before : Anchored)
      → number_items (as_contents (written_nodes (trees_of ns))) count before
      ≡ number_items (as_contents ns) count before
  items_numbered emit.no_nodes count before = refl
  items_numbered (emit.node n ns) count before = λ i.
      node_numbered n count before i >>= (λ r. items_numbered ns (count + length r.nodes) r.before i >>= (λ s. Ok (record { number = r.number ∷ s.number; nodes = r.nodes ++ s.nodes; before = s.before })))

  pairs_numbered : (ps : emit.Pairs) (count : ℕ) (before : Anchored)
      → number_pairs (as_pairs (written_pairs (pair_trees_of ps))) count before
      ≡ number_pairs (as_pairs ps) count before
  pairs_numbered emit.no_pairs count before = refl
  pairs_numbered (emit.pair k v ps) count before = λ i.
      node_numbered k count before i >>= (λ r. node_numbered v (count + length r.nodes) r.before i >>= (λ s. pairs_numbered ps (count + length r.nodes + length s.nodes) s.before i >>= (λ t.
      let p : yaml_node_pair_t = record { key = r.number; value = s.number } in Ok (record { number = p ∷ t.number; nodes = r.nodes ++ (s.nodes ++ t.nodes); before = t.before }))))

-- ---- documents

abbrev made : documents.Document → List model.Node → documents.Document
made d nodes = record (core_document d) { nodes = nodes }

abbrev made_again : documents.Document → List model.Node → documents.Document
made_again d nodes = record (loaded_again d) { nodes = nodes }

abbrev nodes_of : Result documents.Document Fault → List model.Node
nodes_of (Ok d) = d.nodes
nodes_of (Err f) = []

-- marks are no part of what is numbered
marks_aside : (d e : documents.Document) (r : Result (Numbered ℤ) Fault)
    → (r >>= λ x. Ok (made d x.nodes)) ≡ Ok e
    → (r >>= λ x. Ok (made_again d x.nodes)) ≡ Ok (made_again d e.nodes)
marks_aside d e (Ok x) h = ap (λ (ns : List model.Node). Ok (made_again d ns)) (ap nodes_of h)
marks_aside d e (Err f) h = absurd (cc)

document_numbered : DumpsNumberBack → (d : documents.Document) → IsLoadedDocument d
    → document_of (loader_content (document_tree (graph_content d))) ≡ Ok (loaded_again d)
document_numbered back d l =
    let root = (graph_content d).root in
    ap (λ r. r >>= λ x. Ok (made_again d x.nodes)) (node_numbered root 0 [])
    ∙ marks_aside d (core_document d) (number (as_content root) 0 []) (back d l)

no_node : (n : model.Node) (ns : List model.Node) → ns ≡ [] → slice_get ns 0 ≡ Some n → ⊥
no_node n [] z at = cc
no_node n (m ∷ ns) z at = cc

-- a document that is visited from its root has one
rooted : (ns : List model.Node) (after : ℕ) (v : VisitsInPreorder ns 0 (pos 1 ∷ []) after) → ns ≡ []
    → ⊥
rooted ns after (again s k e more h v) z = omega (arith, h)
rooted ns after (first s b e more n at v w) z = no_node n ns z at

in_front_of : (ns : List model.Node) (d : documents.Document) (rest : Loads) → (ns ≡ [] → ⊥)
    → in_front ns d rest ≡ record { documents = d ∷ rest.documents; fault = rest.fault }
in_front_of [] d rest h = absurd (h refl)
in_front_of (n ∷ ns) d rest h = refl

no_core : (ns : List model.Node) → (ns ≡ [] → ⊥) → map core_node ns ≡ [] → ⊥
no_core [] h e = h refl
no_core (n ∷ ns) h e = cc

pub numbered_back : DumpsNumberBack → DumpsAreNumberedBack
numbered_back back [] l = refl
numbered_back back (d ∷ ds) l =
    ap (λ r. load_of r (load_each (trees_of_dumps ds))) (document_numbered back d l.0)
    ∙ in_front_of (map core_node d.nodes) (loaded_again d) (load_each (trees_of_dumps ds)) (no_core d.nodes (rooted d.nodes (length d.nodes) l.0.order))
    ∙ ap (λ (x : Loads). record { documents = loaded_again d ∷ x.documents; fault = x.fault }) (numbered_back back ds l.1)
