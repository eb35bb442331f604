-- The trees of what an emitter is given: what a stream says, where its documents are written.
use Rattle.std.specs.Prelude.{ℕ, Bool, List, map, Option, Some, None}
use Rattle.yaml_emit_laws.specs.emit_layout.Content as emit
use Rattle.yaml_round_content.specs.Said.{ScalarMark, untagged, tagged, Node, alias, scalar, sequence, mapping, Nodes, no_nodes, node, Pairs, no_pairs, pair, Document}

abbrev pub mark_of : Option (List ℕ) → Bool → ScalarMark
mark_of None plain = untagged plain
mark_of (Some t) plain = tagged t

abbrev mutual
  pub tree_of : emit.Node → Node
  tree_of (emit.alias_node name) = alias name
  tree_of (emit.scalar_node x) = scalar x.anchor (mark_of x.tag x.plain) x.value
  tree_of (emit.sequence_node q items) = sequence q.anchor q.tag (trees_of items)
  tree_of (emit.mapping_node q pairs) = mapping q.anchor q.tag (pair_trees_of pairs)

  pub trees_of : emit.Nodes → Nodes
  trees_of emit.no_nodes = no_nodes
  trees_of (emit.node n ns) = node (tree_of n) (trees_of ns)

  pub pair_trees_of : emit.Pairs → Pairs
  pair_trees_of emit.no_pairs = no_pairs
  pair_trees_of (emit.pair k v ps) = pair (tree_of k) (tree_of v) (pair_trees_of ps)

abbrev pub document_tree : emit.Document → Document
document_tree d = record
    { version = d.opening.version; directives = d.opening.directives; root = tree_of d.root }

abbrev pub document_trees : List emit.Document → List Document
document_trees ds = map document_tree ds
