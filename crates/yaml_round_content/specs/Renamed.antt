-- Anchors under other names.
use Rattle.std.specs.Prelude.{◌≡◌, ◌⊎◌, ℕ, suc, List, [], ◌∷◌, Option, Some, None}
use Rattle.yaml_round_content.specs.Said.{Node, alias, scalar, sequence, mapping, Nodes, no_nodes, node, Pairs, no_pairs, pair, Document}

abbrev pub Renaming : Type 0
Renaming = List ℕ → List ℕ

abbrev pub renamed_anchor : Renaming → Option (List ℕ) → Option (List ℕ)
renamed_anchor r None = None
renamed_anchor r (Some name) = Some (r name)

-- a node with each anchor and each alias renamed
abbrev mutual
  pub renamed_node : Renaming → Node → Node
  renamed_node r (alias name) = alias (r name)
  renamed_node r (scalar anchor mark value) = scalar (renamed_anchor r anchor) mark value
  renamed_node r (sequence anchor tag items) = sequence (renamed_anchor r anchor) tag
      (renamed_items r items)
  renamed_node r (mapping anchor tag pairs) = mapping (renamed_anchor r anchor) tag
      (renamed_pairs r pairs)

  pub renamed_items : Renaming → Nodes → Nodes
  renamed_items r no_nodes = no_nodes
  renamed_items r (node n ns) = node (renamed_node r n) (renamed_items r ns)

  pub renamed_pairs : Renaming → Pairs → Pairs
  renamed_pairs r no_pairs = no_pairs
  renamed_pairs r (pair k v ps) = pair (renamed_node r k) (renamed_node r v) (renamed_pairs r ps)

-- each document by a renaming of its own
abbrev pub renamed : (ℕ → Renaming) → List Document → List Document
renamed r [] = []
renamed r (d ∷ ds) =
    let e : Document = record {
      version = d.version;
      directives = d.directives;
      root = renamed_node (r 0) d.root;
    } in e ∷ renamed (λ k. r (suc k)) ds

-- ---- which names occur

abbrev pub IsAnchorName : Option (List ℕ) → List ℕ → Type 0
IsAnchorName None name = ⊥
IsAnchorName (Some anchor) name = anchor ≡ name

-- an anchor or an alias of the node, or of what it holds, has the name
abbrev mutual
  pub HasName : Node → List ℕ → Type 0
  HasName (alias a) name = a ≡ name
  HasName (scalar anchor mark value) name = IsAnchorName anchor name
  HasName (sequence anchor tag items) name = IsAnchorName anchor name ⊎ ItemsHaveName items name
  HasName (mapping anchor tag pairs) name = IsAnchorName anchor name ⊎ PairsHaveName pairs name

  pub ItemsHaveName : Nodes → List ℕ → Type 0
  ItemsHaveName no_nodes name = ⊥
  ItemsHaveName (node n ns) name = HasName n name ⊎ ItemsHaveName ns name

  pub PairsHaveName : Pairs → List ℕ → Type 0
  PairsHaveName no_pairs name = ⊥
  PairsHaveName (pair k v ps) name = HasName k name ⊎ HasName v name ⊎ PairsHaveName ps name

-- no two names of the node become one
abbrev pub IsOneToOne : Renaming → Node → Type 0
IsOneToOne r n = (a b : List ℕ) → HasName n a → HasName n b → r a ≡ r b → a ≡ b

-- nor do two names of one document
abbrev pub AreOneToOne : (ℕ → Renaming) → List Document → Type 0
AreOneToOne r [] = Unit {0}
AreOneToOne r (d ∷ ds) = IsOneToOne (r 0) d.root × AreOneToOne (λ k. r (suc k)) ds
