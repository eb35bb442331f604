-- Which nodes are the same as keys: of one document, or of two.
use Rattle.std.specs.Prelude.{◌≡◌, ◌⊎◌, ℕ, zero, suc, ℤ, List, [], ◌∷◌, length}
use Rattle.yaml_parse_model.specs.Nodes.{Node, NodeBody, type_of}
use Rattle.yaml_parse_model.specs.Nodes as node
use Rattle.yaml_parse_model.specs.Documents.{IsId}
use Rattle.yaml_emit_graph.specs.Graph.{child_ids, body_of_id, tag_of_id}

-- the text of a scalar; none of a collection
abbrev pub text_of : NodeBody → List ℕ
text_of (node.scalar value style) = value
text_of _ = []

-- the numbers of two nodes, of one kind, with one tag and one text
pub record LookAlike (nodes others : List Node) (a b : ℤ) : Type 0 where
  pub first : IsId (length nodes) a
  pub second : IsId (length others) b
  pub kind : type_of (body_of_id nodes a) ≡ type_of (body_of_id others b)
  pub tag : tag_of_id nodes a ≡ tag_of_id others b
  pub text : text_of (body_of_id nodes a) ≡ text_of (body_of_id others b)

-- one by one, and as many
abbrev pub OneByOne : (ℤ → ℤ → Type 0) → List ℤ → List ℤ → Type 0
OneByOne P [] [] = Unit {0}
OneByOne P [] (b ∷ bs) = ⊥
OneByOne P (a ∷ xs) [] = ⊥
OneByOne P (a ∷ xs) (b ∷ bs) = P a b × OneByOne P xs bs

-- They look alike, and so do one by one the nodes that they hold, and those that these hold, to the
-- ground, which lies at most that many levels deep. (A node that holds itself has no ground.)
unfoldable pub AgreeWithin : ℕ → List Node → List Node → ℤ → ℤ → Type 0
AgreeWithin zero nodes others a b = ⊥
AgreeWithin (suc n) nodes others a b = LookAlike nodes others a b
    × OneByOne (AgreeWithin n nodes others) (child_ids (body_of_id nodes a))
    (child_ids (body_of_id others b))

-- Nodes of two documents that agree with all that they hold. Anchors, styles and places don't
-- count.
abbrev pub Agree : List Node → List Node → ℤ → ℤ → Type 0
Agree nodes others a b = (n : ℕ) × AgreeWithin n nodes others a b

-- One node, as where one is an alias of the other; or nodes that agree with all that they hold.
abbrev pub AreSame : List Node → ℤ → ℤ → Type 0
AreSame nodes a b = (a ≡ b) ⊎ Agree nodes nodes a b
