-- What the steps of a comparison do.
use Rattle.std.specs.Prelude.{◌≡◌, ◌⊎◌, ℕ, ℤ, pos, ◌≤ℤ◌, List, [], ◌∷◌, ◌++◌, length, take, Some}
use Rattle.std.specs.FinMap as map
use Rattle.yaml_parse_model.specs.Nodes.{Node}
use Rattle.yaml_emit_graph.specs.Graph.{body_of_id, number_at}
use Rattle.yaml_round_documents.specs.Shapes.{Shapes}
use Rattle.yaml_round_documents.specs.Ranks.{natural}
use Rattle.yaml_round_documents.specs.declared.ranks.BothLabels.{BothLabels}
use Rattle.yaml_round_documents.specs.declared.difference.yaml_node_difference_t.{yaml_node_difference_t}
use Rattle.yaml_round_documents.specs.declared.walk.yaml_node_match_t.{yaml_node_match_t as Pair}
use Rattle.yaml_round_documents.specs.declared.walk.Walk.{Walk}
use Rattle.yaml_round_documents.specs.Pairs.{AreReached, IsAmong, IsCompared, IsOneOf, NoneTwice, held_pairs}
use Rattle.yaml_round_documents.specs.Differences.{told_in, told_of}

-- the numbers of nodes
abbrev pub first_of : BothLabels → ℤ → ℕ
first_of labels = number_at labels.first.items

abbrev pub second_of : BothLabels → ℤ → ℕ
second_of labels = number_at labels.second.items

-- these are above zero
abbrev pub AreNumbers : List ℤ → Type 0
AreNumbers [] = Unit {0}
AreNumbers (id ∷ ids) = (pos 1 ≤ℤ id) × AreNumbers ids

-- they are of such numbers
abbrev pub AreNumbered : List Pair → Type 0
AreNumbered ps = (a b : ℤ) → IsOneOf a b ps → (pos 1 ≤ℤ a) × (pos 1 ≤ℤ b)

-- a pair as a list
abbrev pub pair_name : ℤ → ℤ → List ℕ
pair_name a b = natural a ∷ natural b ∷ []

-- these pairs were met, and no others
pub record AreMet (pairs : List Pair) (met : Shapes) : Type 0 where
  pub holds : (a b : ℤ) → IsOneOf a b pairs → map.get met (pair_name a b) ≡ Some 1
  pub from : (x : List ℕ) (v : ℕ) → map.get met x ≡ Some v
      → (a : ℤ) × (b : ℤ) × IsOneOf a b pairs × (x ≡ pair_name a b)

-- a walk: its pairs are numbers of nodes, none is there twice, and it knows which were met
pub record IsWalkOf (pairs : List Pair) (table : Shapes) : Type 0 where
  pub met : AreMet pairs table
  pub once : NoneTwice pairs
  pub ids : AreNumbered pairs

abbrev pub IsWalk : Walk → Type 0
IsWalk w = IsWalkOf w.pairs.items w.met

-- a pair was met before, or came on
abbrev pub Meets : Pair → Walk → Walk → Type 0
Meets p old new = IsWalk new × (((new.pairs.items ≡ old.pairs.items)
    × IsOneOf p.first p.second old.pairs.items) ⊎ (new.pairs.items ≡ old.pairs.items ++ p ∷ []))

-- Those of some pairs that differ are in the walk; what came on is of them.
pub record Pushes (first second : ℤ → ℕ) (some old new : List Pair) : Type 0 where
  pub added : List Pair
  pub is : new ≡ old ++ added
  pub among : (p : Pair) → IsAmong p added → IsAmong p some
  pub sound : (a b : ℤ) → IsOneOf a b added → IsOneOf a b some × (first a ≡ second b → ⊥)
  pub whole : (a b : ℤ) → IsOneOf a b some → (first a ≡ second b → ⊥) → IsOneOf a b new

abbrev pub PushesOn : BothLabels → List Pair → Walk → Walk → Type 0
PushesOn labels some old new = IsWalk new
    × Pushes (first_of labels) (second_of labels) some old.pairs.items new.pairs.items

-- a pair was compared
pub record ComparesPair (nodes others : List Node) (labels : BothLabels) (number : ℕ) (p : Pair)
    (old new : Walk) (before after : List yaml_node_difference_t) : Type 0 where
  pub told : after ≡ before ++ told_of (first_of labels) (second_of labels) nodes others
      number p
  pub pushes : PushesOn labels (held_pairs (first_of labels) (second_of labels) number
      (body_of_id nodes p.first) (body_of_id others p.second)) old new

-- The first pairs were compared: their differences are listed, and what they hold that differs is
-- in the walk.
pub record ComparesTo (nodes others : List Node) (first second : ℤ → ℕ) (done : ℕ)
    (pairs : List Pair) (list : List yaml_node_difference_t) : Type 0 where
  pub told : list ≡ told_in first second nodes others 0 (take done pairs)
  pub root : IsOneOf (pos 1) (pos 1) pairs
  pub reached : AreReached nodes others first second pairs
  pub sound : (a b : ℤ) → IsOneOf a b pairs → IsCompared nodes others first second a b
  pub whole : (c d a b : ℤ) → IsOneOf c d (take done pairs)
      → IsOneOf a b (held_pairs first second 0 (body_of_id nodes c) (body_of_id others d))
      → (first a ≡ second b → ⊥) → IsOneOf a b pairs

abbrev pub Compares : List Node → List Node → BothLabels → ℕ → Walk
    → List yaml_node_difference_t → Type 0
Compares nodes others labels done walk told = ComparesTo nodes others (first_of labels)
    (second_of labels) done walk.pairs.items told

-- the roots are to be compared
abbrev pub Begins : List Node → List Node → BothLabels → Walk → List yaml_node_difference_t → Type 0
Begins nodes others labels walk told = Compares nodes others labels 0 walk told

-- all pairs of the walk were compared
abbrev pub ComparesAll : List Node → List Node → BothLabels → Walk → List yaml_node_difference_t
    → Type 0
ComparesAll nodes others labels walk told = IsWalk walk
    × Compares nodes others labels (length walk.pairs.items) walk told
