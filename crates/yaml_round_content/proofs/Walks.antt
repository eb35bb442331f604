-- What a document says looks at no style and no mark.
use Rattle.std.proofs.Common.{◌≡◌, ℕ, zero, suc, ℤ, pos, Bool, true, false, List, [], ◌∷◌, length, map, replicate, Option, Some, refl, sym, ap, ◌∙◌}
use Rattle.yaml_round_content.proofs.Words.{slice_get, if◌then◌else◌, length-map, yaml_node_pair_t, zero_mark, graph_content, Node, Nodes, Pairs, Document, node, pair, sequence, mapping, tree_of, trees_of, pair_trees_of, document_tree, CoreNode, Core, core_body, core_node, core_of, Met, is_met, meet, body_at, tag_at, body_of_id, tag_of_id, none_met, turns, none_numbered, numbers, number_at, document_trees, AgreeingSayTheSame}
use Rattle.std.proofs.Math.Path.{fun_ext}
use Rattle.yaml_parse_model.specs.Nodes as model
use Rattle.yaml_parse_model.specs.Documents as documents
use Rattle.yaml_emit_laws.specs.emit_layout.Content as emit
use Rattle.yaml_emit_laws.specs.emit_graph.declared.Turn.{Turn}
use Rattle.yaml_emit_laws.specs.emit_graph.declared.Turn.TheVariants.{First, Again}
use Rattle.yaml_emit_laws.specs.emit_graph.Graph.{numbered, anchor_of}
use Rattle.yaml_emit_laws.specs.emit_graph.Onward.{Rest, inside, visits, nothing_left, items_by, pairs_by, node_by, content_by, itself, turns_onward, root_onward}
use Rattle.yaml_emit_laws.proofs.GraphJoining.{turns_joined, root_joined}

-- ---- a document of its core: the styles are the ones that mean any, and the marks are zero

abbrev dressed_node : CoreNode → model.Node
dressed_node n = record { body = n.body; tag = n.tag; start_mark = zero_mark; end_mark = zero_mark }

abbrev dressed : Core → documents.Document
dressed c = record {
  version = c.version;
  directives = c.directives;
  start_implicit = true;
  end_implicit = true;
  start_mark = zero_mark;
  end_mark = zero_mark;
  nodes = map dressed_node c.nodes;
}

abbrev bare : List model.Node → List model.Node
bare ns = map dressed_node (map core_node ns)

length_bare : (ns : List model.Node) → length ns ≡ length (bare ns)
length_bare ns = sym (length-map ns core_node) ∙ sym (length-map (map core_node ns) dressed_node)

-- ---- nodes by their numbers

got_body : (ns : List model.Node) (k : ℕ)
    → body_at (slice_get (bare ns) k) ≡ core_body (body_at (slice_get ns k))
got_body [] k = refl
got_body (n ∷ ns) zero = refl
got_body (n ∷ ns) (suc k) = got_body ns k

got_tag : (ns : List model.Node) (k : ℕ) → tag_at (slice_get (bare ns) k) ≡ tag_at (slice_get ns k)
got_tag [] k = refl
got_tag (n ∷ ns) zero = refl
got_tag (n ∷ ns) (suc k) = got_tag ns k

bare_body : (ns : List model.Node) (id : ℤ) → body_of_id (bare ns) id ≡ core_body (body_of_id ns id)
bare_body ns (pos (suc k)) = got_body ns k
bare_body ns _ = refl

bare_tag : (ns : List model.Node) (id : ℤ) → tag_of_id (bare ns) id ≡ tag_of_id ns id
bare_tag ns (pos (suc k)) = got_tag ns k
bare_tag ns _ = refl

-- ---- the walk

abbrev Visit : Type 0
Visit = ℤ → Rest → Rest

inside_bare : (v : Visit) (id : ℤ) (b : model.NodeBody) (r : Rest) (m : Met)
    → inside v id b r m ≡ inside v id (core_body b) r m
inside_bare v id model.no r m = refl
inside_bare v id _ r m = refl

visited : (n : ℕ) (ns : List model.Node) → visits n ns ≡ visits n (bare ns)
unfolding visits
visited zero ns = refl
visited (suc n) ns = fun_ext (λ id. fun_ext (λ r. fun_ext (λ m.
    ap (λ (v : Visit). if is_met m id then Again id ∷ r m else First id ∷ inside v id (body_of_id ns id) r (meet m id)) (visited n ns)
    ∙ ap (λ (ts : List Turn). if is_met m id then Again id ∷ r m else First id ∷ ts) (inside_bare (visits n (bare ns)) id (body_of_id ns id) r (meet m id))
    ∙ ap (λ (b : model.NodeBody). if is_met m id then Again id ∷ r m else First id ∷ inside (visits n (bare ns)) id b r (meet m id)) (sym (bare_body ns id)))))

onward_same : (ns : List model.Node) → turns_onward ns ≡ turns_onward (bare ns)
unfolding turns_onward
onward_same ns =
    ap (λ (k : ℕ). visits (suc k) ns (pos 1) nothing_left (replicate k false)) (length_bare ns)
    ∙ ap (λ (v : Visit). v (pos 1) nothing_left (none_met (bare ns))) (visited (suc (length (bare ns))) ns)

numbers_same : (ns : List model.Node) → numbers ns ≡ numbers (bare ns)
unfolding numbers
numbers_same ns =
    ap (λ (k : ℕ). (numbered (none_numbered k) (turns ns)).table) (length_bare ns)
    ∙ ap (λ (ts : List Turn). (numbered (none_numbered (length (bare ns))) ts).table) (sym (turns_joined ns) ∙ onward_same ns ∙ turns_joined (bare ns))

-- ---- what is made of a walk: rests that agree on what has the same content

record SameNode (r s : emit.Node → Met → emit.Node) : Type 0 where
  goes : (v w : emit.Node) (m : Met) → tree_of v ≡ tree_of w → tree_of (r v m) ≡ tree_of (s w m)

record SameNodes (r s : emit.Nodes → Met → emit.Node) : Type 0 where
  goes : (v w : emit.Nodes) (m : Met) → trees_of v ≡ trees_of w → tree_of (r v m) ≡ tree_of (s w m)

record SamePairs (r s : emit.Pairs → Met → emit.Node) : Type 0 where
  goes : (v w : emit.Pairs) (m : Met) → pair_trees_of v ≡ pair_trees_of w
      → tree_of (r v m) ≡ tree_of (s w m)

abbrev Making : Type 0
Making = ℤ → (emit.Node → Met → emit.Node) → Met → emit.Node

record SameMaking (u v : Making) : Type 0 where
  goes : (id : ℤ) (r s : emit.Node → Met → emit.Node) (m : Met) → SameNode r s
      → tree_of (u id r m) ≡ tree_of (v id s m)

module _ (u v : Making) (same : SameMaking u v) where
  items_same : (ids : List ℤ) (r s : emit.Nodes → Met → emit.Node) (m : Met) → SameNodes r s
      → tree_of (items_by u ids r m) ≡ tree_of (items_by v ids s m)
  unfolding items_by
  items_same [] r s m h = h.goes emit.no_nodes emit.no_nodes m refl
  items_same (id ∷ ids) r s m h = same.goes id _ _ m record {
    goes = λ x y n e. items_same ids _ _ n record { goes = λ xs ys o g. h.goes (emit.node x xs) (emit.node y ys) o (ap (λ (t : Node). node t (trees_of xs)) e ∙ ap (λ (t : Nodes). node (tree_of y) t) g) };
  }

  pairs_same : (ps : List yaml_node_pair_t) (r s : emit.Pairs → Met → emit.Node) (m : Met)
      → SamePairs r s → tree_of (pairs_by u ps r m) ≡ tree_of (pairs_by v ps s m)
  unfolding pairs_by
  pairs_same [] r s m h = h.goes emit.no_pairs emit.no_pairs m refl
  pairs_same (p ∷ ps) r s m h = same.goes p.key _ _ m record {
    goes = λ x y n e. same.goes p.value _ _ n record {
      goes = λ z w o g. pairs_same ps _ _ o record {
        goes = λ xs ys q k. h.goes (emit.pair x z xs) (emit.pair y w ys) q
            (ap (λ (t : Node). pair t (tree_of z) (pair_trees_of xs)) e ∙ ap (λ (t : Node). pair (tree_of y) t (pair_trees_of xs)) g ∙ ap (λ (t : Pairs). pair (tree_of y) (tree_of w) t) k);
      };
    };
  }

  made_same : (anchor : Option (List ℕ)) (tag : List ℕ) (b : model.NodeBody)
      (r s : emit.Node → Met → emit.Node) (m : Met) → SameNode r s
      → tree_of (node_by u anchor tag b r m) ≡ tree_of (node_by v anchor tag (core_body b) s m)
  made_same anchor tag (model.sequence items style) r s m h = items_same items _ _ m record { goes = λ x y n e. h.goes _ _ n (ap (λ (t : Nodes). sequence anchor (Some tag) t) e) }
  made_same anchor tag (model.mapping pairs style) r s m h = pairs_same pairs _ _ m record { goes = λ x y n e. h.goes _ _ n (ap (λ (t : Pairs). mapping anchor (Some tag) t) e) }
  made_same anchor tag _ r s m h = h.goes _ _ m refl

either_same : (b : Bool) (x y z w : emit.Node) → tree_of x ≡ tree_of z → tree_of y ≡ tree_of w
    → tree_of (if b then x else y) ≡ tree_of (if b then z else w)
either_same true x y z w e f = e
either_same false x y z w e f = f

making_same : (n : ℕ) (table : List ℕ) (ns : List model.Node)
    → SameMaking (content_by n table ns) (content_by n table (bare ns))
unfolding content_by
making_same zero table ns = record { goes = λ id r s m h. h.goes _ _ m refl }
making_same (suc n) table ns = record {
  goes = λ id r s m h. either_same (is_met m id) _ _ _ _ (h.goes _ _ m refl)
      (made_same (content_by n table ns) (content_by n table (bare ns)) (making_same n table ns) (anchor_of (number_at table id)) (tag_of_id ns id) (body_of_id ns id) r s (meet m id) h
      ∙ ap (λ (t : List ℕ). tree_of (node_by (content_by n table (bare ns)) (anchor_of (number_at table id)) t (core_body (body_of_id ns id)) s (meet m id))) (sym (bare_tag ns id))
      ∙ ap (λ (b : model.NodeBody). tree_of (node_by (content_by n table (bare ns)) (anchor_of (number_at table id)) (tag_of_id (bare ns) id) b s (meet m id))) (sym (bare_body ns id)));
}

making_onward : (ns : List model.Node) → tree_of (root_onward ns) ≡ tree_of (root_onward (bare ns))
unfolding root_onward
making_onward ns =
    ap (λ (table : List ℕ). tree_of (content_by (suc (length ns)) table ns (pos 1) itself (none_met ns))) (numbers_same ns)
    ∙ ap (λ (k : ℕ). tree_of (content_by (suc k) (numbers (bare ns)) ns (pos 1) itself (replicate k false))) (length_bare ns)
    ∙ (making_same (suc (length (bare ns))) (numbers (bare ns)) ns).goes (pos 1) itself itself (none_met (bare ns)) record { goes = λ v w m e. e }

-- ---- documents

-- what a document says, by its core
abbrev said_of : Core → Document
said_of c = document_tree (graph_content (dressed c))

said_same : (d : documents.Document) → document_tree (graph_content d) ≡ said_of (core_of d)
said_same d = ap (λ (n : Node). let e : Document = record { version = d.version; directives = d.directives; root = n } in e) (ap tree_of (sym (root_joined d.nodes)) ∙ making_onward d.nodes ∙ ap tree_of (root_joined (bare d.nodes)))

all_said : (ds : List documents.Document)
    → document_trees (map graph_content ds) ≡ map said_of (map core_of ds)
all_said [] = refl
all_said (d ∷ ds) = ap (λ (e : Document). e ∷ document_trees (map graph_content ds)) (said_same d) ∙ ap (λ (es : List Document). said_of (core_of d) ∷ es) (all_said ds)

pub agreeing_said : AgreeingSayTheSame
agreeing_said ds es e = all_said ds ∙ ap (λ (cs : List Core). map said_of cs) e ∙ sym (all_said es)
