-- How deep nodes are, and which are too deep for an indent.
use Rattle.std.specs.Prelude.{◌⊎◌, ℕ, zero, suc, ◌+◌, ◌*◌, ◌<◌, List, [], ◌∷◌}
use Rattle.yaml_emit_layout.specs.Content.{Node, alias_node, scalar_node, sequence_node, mapping_node, Nodes, no_nodes, node, Pairs, no_pairs, pair, Document}
use Rattle.yaml_emit_layout.specs.Nodes.{MOST}

-- Some node of the tree that is no alias is at this depth: the root at 0, and what a collection
-- holds, keys and values alike, one deeper than the collection.
unfoldable mutual
  pub StandsAt : ℕ → Node → Type 0
  StandsAt d (alias_node name) = ⊥
  StandsAt zero (scalar_node x) = Unit {0}
  StandsAt (suc d) (scalar_node x) = ⊥
  StandsAt zero (sequence_node q items) = Unit {0}
  StandsAt (suc d) (sequence_node q items) = ItemStandsAt d items
  StandsAt zero (mapping_node q pairs) = Unit {0}
  StandsAt (suc d) (mapping_node q pairs) = PartStandsAt d pairs

  pub ItemStandsAt : ℕ → Nodes → Type 0
  ItemStandsAt d no_nodes = ⊥
  ItemStandsAt d (node x xs) = StandsAt d x ⊎ ItemStandsAt d xs

  pub PartStandsAt : ℕ → Pairs → Type 0
  PartStandsAt d no_pairs = ⊥
  PartStandsAt d (pair k v ps) = StandsAt d k ⊎ (StandsAt d v ⊎ PartStandsAt d ps)

-- in the tree of some document
unfoldable pub RootStandsAt : ℕ → List Document → Type 0
RootStandsAt d [] = ⊥
RootStandsAt d (x ∷ xs) = StandsAt d x.root ⊎ RootStandsAt d xs

-- Some node of the documents that is no alias is at a depth d where (d + 1) times the indent is
-- more than the most columns, 2,147,483,647.
pub record IsTooDeep (indent : ℕ) (ds : List Document) : Type 0 where
  pub depth : ℕ
  pub stands : RootStandsAt depth ds
  pub past : MOST < (depth + 1) * indent
