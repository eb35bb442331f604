-- Nodes by ranks: nodes that agree with all that they hold have one rank.
use Rattle.std.specs.Prelude.{◌≡◌, ◌⊎◌, ◌↔◌, ◌<◌, ◌≤◌, ℕ, suc, ◌+◌, ◌*◌, ◌%◌, ◌^◌, ◌==◌, ℤ, pos, Bool, true, false, not, ◌&&◌, if◌then◌else◌, List, [], ◌∷◌, ◌++◌, length, get_or, map, Some, None, Result, Ok, Err}
use Rattle.std.specs.declared.alloc.AllocError.{AllocError}
use Rattle.std.specs.FinMap as map
use Rattle.yaml_parse_model.specs.Nodes.{Node, NodeBody}
use Rattle.yaml_parse_model.specs.Nodes as node
use Rattle.yaml_parse_model.specs.Documents.{IsId}
use Rattle.yaml_emit_graph.specs.Graph.{child_ids, body_of_id, tag_of_id, number_at}
use Rattle.yaml_emit_graph.specs.Numbers.{counted}
use Rattle.yaml_round_documents.specs.Shapes.{Shapes}
use Rattle.yaml_round_documents.specs.Same.{text_of, AgreeWithin, Agree, AreSame}
use Rattle.yaml_round_documents.specs.declared.ranks.Ranks.{Ranks}
use Rattle.yaml_round_documents.specs.declared.ranks.BothLabels.{BothLabels}

-- a kind as a number
abbrev pub kind_of : NodeBody → ℕ
kind_of node.no = 0
kind_of (node.scalar value style) = 1
kind_of (node.sequence items style) = 2
kind_of (node.mapping pairs style) = 3

-- a number, with a byte more
abbrev pub number_with : ℕ → ℕ → ℕ
number_with n b = ((n * 0x100000001b3) % 2 ^ 64 + b) % 2 ^ 64

-- the number of a text after one that has that number
abbrev pub number_from : ℕ → List ℕ → ℕ
number_from n [] = n
number_from n (b ∷ bs) = number_from (number_with n b) bs

-- What a node looks like except for what it holds: a number of its text, its kind, how long its
-- text and its tag are, and these.
abbrev pub look : NodeBody → List ℕ → List ℕ
look b tag = number_from 0 (text_of b) ∷ kind_of b ∷ length (text_of b) ∷ length tag
    ∷ (text_of b ++ tag)

-- that with ranks after it, by which the number goes on
abbrev pub with_held : List ℕ → List ℕ → List ℕ
with_held [] ranks = ranks
with_held (n ∷ ns) ranks = number_from n ranks ∷ (ns ++ ranks)

-- what it looks like where those that it holds have these ranks
abbrev pub shape_of : List ℕ → List Node → ℤ → List ℕ
shape_of ranks nodes id = with_held (look (body_of_id nodes id) (tag_of_id nodes id))
    (map (number_at ranks) (child_ids (body_of_id nodes id)))

-- all these have ranks; 0 means none
abbrev pub all_ranked : List ℕ → List ℤ → Bool
all_ranked ranks [] = true
all_ranked ranks (id ∷ ids) = not (number_at ranks id == 0) && all_ranked ranks ids

abbrev pub holds_ranked : List ℕ → List Node → ℤ → Bool
holds_ranked ranks nodes id = all_ranked ranks (child_ids (body_of_id nodes id))

-- Each rank is that of one shape. A node with a rank has a ground, what it holds has ranks, and its
-- own is that of its shape.
pub record AreRanks (nodes : List Node) (table : List ℕ) (shapes : Shapes)
    (given : ℕ) : Type 0 where
  pub depth : ℕ
  pub sized : length table ≡ length nodes
  pub ground : (a : ℤ) → 0 < number_at table a → AgreeWithin depth nodes nodes a a
  pub held : (a : ℤ) → 0 < number_at table a → holds_ranked table nodes a ≡ true
  pub found : (a : ℤ) → 0 < number_at table a
      → map.get shapes (shape_of table nodes a) ≡ Some (number_at table a)
  pub told : (x y : List ℕ) (n : ℕ) → map.get shapes x ≡ Some n → map.get shapes y ≡ Some n
      → x ≡ y
  pub below : (x : List ℕ) (n : ℕ) → map.get shapes x ≡ Some n → (0 < n) × (n ≤ given)

abbrev pub IsRanking : List Node → Ranks → Type 0
IsRanking nodes r = AreRanks nodes r.table.items r.shapes r.given

-- shapes keep their ranks
pub record KeepShapes (old new : Shapes) : Type 0 where
  pub keep : (x : List ℕ) (n : ℕ) → map.get old x ≡ Some n → map.get new x ≡ Some n

-- more may have ranks
abbrev pub RanksOn : List Node → Ranks → Ranks → Type 0
RanksOn nodes old new = IsRanking nodes new × KeepShapes old.shapes new.shapes

-- a number is one of these
abbrev pub IsIn : ℤ → List ℤ → Type 0
IsIn a [] = ⊥
IsIn a (x ∷ xs) = (a ≡ x) ⊎ IsIn a xs

-- it has a rank, or holds a node that has none
abbrev pub IsJudged : List Node → List ℕ → ℤ → Type 0
IsJudged nodes table id = holds_ranked table nodes id ≡ true → 0 < number_at table id

-- so are all nodes from a place on
abbrev pub AreJudgedFrom : ℕ → List Node → List ℕ → Type 0
AreJudgedFrom from nodes table = (k : ℕ) → from ≤ k → k < length nodes
    → IsJudged nodes table (pos (suc k))

-- where that is said, all nodes were judged
abbrev pub IfJudged : List Node → Ranks → Bool → Type 0
IfJudged nodes r judged = judged ≡ true → AreJudgedFrom 0 nodes r.table.items

-- more nodes have ranks; or none got one, and that holds
abbrev pub Ranked : (List ℕ → Type 0) → List Node → Ranks → Result Bool AllocError → Ranks → Type 0
Ranked P nodes old (Ok true) new = IsRanking nodes new
    × (counted old.table.items < counted new.table.items) × KeepShapes old.shapes new.shapes
Ranked P nodes old (Ok false) new = IsRanking nodes new × (new.table.items ≡ old.table.items)
    × P new.table.items × KeepShapes old.shapes new.shapes
Ranked P nodes old (Err e) new = Unit {0}

-- the place of a node that is due to get a rank; none where it is judged
abbrev pub IsDue : List Node → List ℕ → ℕ → Bool → Type 0
IsDue nodes table at true = (get_or table at 0 ≡ 0)
    × (holds_ranked table nodes (pos (suc at)) ≡ true)
IsDue nodes table at false = IsJudged nodes table (pos (suc at))

-- the rank that a shape has, or the next one, which it has from now on
abbrev pub GivesRank : Ranks → List ℕ → Result ℕ AllocError → Ranks → Type 0
GivesRank old x (Ok n) new =
    ((map.get old.shapes x ≡ Some n) × (new.shapes ≡ old.shapes) × (new.given ≡ old.given))
    ⊎ ((map.get old.shapes x ≡ None) × (new.shapes ≡ map.insert old.shapes x n)
    × (n ≡ suc old.given) × (new.given ≡ n))
GivesRank old x (Err e) new = Unit {0}

-- a node's number as a natural one
abbrev pub natural : ℤ → ℕ
natural (pos n) = n
natural _ = 0

-- the rank; of a node without one a number of its own after all ranks
abbrev pub label_of : List ℕ → ℕ → ℤ → ℕ
label_of table given id = if number_at table id == 0 then given + natural id else number_at table id

-- these nodes have ranks, or all were judged
abbrev pub AreDone : List ℤ → List Node → List ℕ → Type 0
AreDone ids nodes table = (all_ranked table ids ≡ true) ⊎ AreJudgedFrom 0 nodes table

-- of these nodes two have one label exactly where they are the same
abbrev pub Tells : List ℤ → List Node → Ranks → Type 0
Tells ids nodes r = (a b : ℤ) → IsId (length nodes) a → IsId (length nodes) b → IsIn a ids
    → IsIn b ids
    → (label_of r.table.items r.given a ≡ label_of r.table.items r.given b) ↔ AreSame nodes a b

-- ---- the nodes of two documents, by ranks of shapes that they share

-- the nodes of both have ranks of shapes that they share, or hold one that has none
pub record AreBothRanked (nodes others : List Node) (table : List ℕ) (r : Ranks) : Type 0 where
  pub first : AreRanks nodes table r.shapes r.given
  pub first_judged : AreJudgedFrom 0 nodes table
  pub second : IsRanking others r
  pub second_judged : AreJudgedFrom 0 others r.table.items

-- what has a rank keeps it, and what has none has a number after a floor
abbrev pub IsSettled : List ℕ → ℕ → List ℕ → Type 0
IsSettled old floor new = (length new ≡ length old)
    × ((a : ℤ) → IsId (length old) a → number_at new a ≡ label_of old floor a)

-- labels by ranks: what has no rank in the second one has a number after all of the first
pub record AreLabels (table more : List ℕ) (given : ℕ) (labels : BothLabels) : Type 0 where
  pub first : (a : ℤ) → IsId (length table) a
      → number_at labels.first.items a ≡ label_of table given a
  pub second : (a : ℤ) → IsId (length more) a
      → number_at labels.second.items a ≡ label_of more (given + suc (length table)) a

-- Numbers of the nodes of two documents: nodes of one document have one number exactly where they
-- are the same, and nodes of both exactly where they agree.
pub record TellBoth (nodes others : List Node) (first second : ℤ → ℕ) : Type 0 where
  pub own : (a b : ℤ) → IsId (length nodes) a → IsId (length nodes) b
      → (first a ≡ first b) ↔ AreSame nodes a b
  pub other : (a b : ℤ) → IsId (length others) a → IsId (length others) b
      → (second a ≡ second b) ↔ AreSame others a b
  pub across : (a b : ℤ) → IsId (length nodes) a → IsId (length others) b
      → (first a ≡ second b) ↔ Agree nodes others a b

-- the labels show it
abbrev pub LabelsTell : List Node → List Node → BothLabels → Type 0
LabelsTell nodes others labels = TellBoth nodes others (number_at labels.first.items)
    (number_at labels.second.items)
