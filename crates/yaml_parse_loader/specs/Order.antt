-- The order of a document's numbers: the first visits in preorder from the root, a pair's key before its value.
use Rattle.std.specs.Prelude.{◌≡◌, ◌<◌, ℕ, suc, ℤ, pos, List, [], ◌∷◌, length, Some, slice_get}
use Rattle.yaml_parse_model.specs.declared.yaml_node_pair_t.{yaml_node_pair_t}
use Rattle.yaml_parse_model.specs.Nodes.{Node, NodeBody}
use Rattle.yaml_parse_model.specs.Nodes as node

-- the numbers that pairs name
abbrev pub pair_numbers : List yaml_node_pair_t → List ℤ
pair_numbers [] = []
pair_numbers (p ∷ ps) = p.key ∷ p.value ∷ pair_numbers ps

-- the numbers that a node names, in order
abbrev pub children : NodeBody → List ℤ
children (node.sequence items style) = items
children (node.mapping pairs style) = pair_numbers pairs
children _ = []

-- the visits of numbers, one after another, with that many nodes visited before them and that many afterwards: a node
-- that was visited is only met again; a first visit has the next number, and goes on with what the node names
pub data VisitsInPreorder (nodes : List Node) : ℕ → List ℤ → ℕ → Type 0 where
  done : (seen : ℕ) → VisitsInPreorder nodes seen [] seen
  again : (seen k after : ℕ) (ids : List ℤ) → k < seen → VisitsInPreorder nodes seen ids after
      → VisitsInPreorder nodes seen (pos (suc k) ∷ ids) after
  first : (seen between after : ℕ) (ids : List ℤ) (n : Node) → slice_get nodes seen ≡ Some n
      → VisitsInPreorder nodes (suc seen) (children n.body) between
      → VisitsInPreorder nodes between ids after
      → VisitsInPreorder nodes seen (pos (suc seen) ∷ ids) after

-- from the root all nodes are visited, and their numbers follow their first visits
abbrev pub IsInPreorder : List Node → Type 0
IsInPreorder nodes = VisitsInPreorder nodes 0 (pos 1 ∷ []) (length nodes)
