-- Whether two documents are equal.
use Rattle.std.specs.Prelude.{◌≡◌, ℕ, zero, suc, ℤ, pos, List}
use Rattle.yaml_parse_model.specs.Nodes.{Node}
use Rattle.yaml_emit_graph.specs.Graph.{body_of_id, tag_of_id}
use Rattle.yaml_round_documents.specs.Same.{Agree, OneByOne, text_of}
use Rattle.yaml_round_documents.specs.Ranks.{kind_of}
use Rattle.yaml_round_documents.specs.Telling.{keys_of}
use Rattle.yaml_round_documents.specs.Pairs.{held_values}

-- two nodes have one kind, one text and one tag
pub record Seem (nodes others : List Node) (a b : ℤ) : Type 0 where
  pub kind : kind_of (body_of_id nodes a) ≡ kind_of (body_of_id others b)
  pub text : text_of (body_of_id nodes a) ≡ text_of (body_of_id others b)
  pub tag : tag_of_id nodes a ≡ tag_of_id others b

-- So many levels deep they seem so; their keys agree one by one, and so do the values or the items.
unfoldable pub EqualTo : ℕ → List Node → List Node → ℤ → ℤ → Type 0
EqualTo zero nodes others a b = Unit {0}
EqualTo (suc n) nodes others a b = Seem nodes others a b
    × OneByOne (Agree nodes others) (keys_of (body_of_id nodes a)) (keys_of (body_of_id others b))
    × OneByOne (EqualTo n nodes others) (held_values (body_of_id nodes a))
    (held_values (body_of_id others b))

-- The roots do, however deep. (A node that holds itself goes on for ever; as a key it agrees with
-- none.)
abbrev pub AreEqual : List Node → List Node → Type 0
AreEqual nodes others = (n : ℕ) → EqualTo n nodes others (pos 1) (pos 1)
