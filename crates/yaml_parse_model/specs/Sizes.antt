-- How many entries the lists of a document have: at most 2,147,483,647.
use Rattle.std.specs.Prelude.{◌≤◌, List, [], ◌∷◌, length}
use Rattle.yaml_parse_model.specs.Nodes.{Node, NodeBody}
use Rattle.yaml_parse_model.specs.Documents.{Document, most_entries, item_count, pair_count}

-- what a node holds: its items if it is a sequence, its pairs if it is a mapping
abbrev pub IsSizedBody : NodeBody → Type 0
IsSizedBody b = (item_count b ≤ most_entries) × (pair_count b ≤ most_entries)

abbrev pub AreSized : List Node → Type 0
AreSized [] = Unit {0}
AreSized (n ∷ ns) = IsSizedBody n.body × AreSized ns

-- the list of nodes, and that of each node
pub record IsSized (d : Document) : Type 0 where
  pub nodes : length d.nodes ≤ most_entries
  pub entries : AreSized d.nodes
