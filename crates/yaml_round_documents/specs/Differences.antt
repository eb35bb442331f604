-- Every place where two documents differ.
use Rattle.std.specs.Prelude.{◌≡◌, ◌↔◌, ℕ, suc, ℤ, ◌==◌, Bool, true, false, if◌then◌else◌, List, [], ◌∷◌, ◌++◌, Option, Some, None, nat_eq}
use Rattle.std.specs.Cmp.Lexicographic.{pointwise}
use Rattle.yaml_parse_model.specs.Nodes.{Node, NodeBody}
use Rattle.yaml_emit_graph.specs.Graph.{body_of_id, tag_of_id}
use Rattle.yaml_round_documents.specs.Same.{text_of}
use Rattle.yaml_round_documents.specs.Ranks.{TellBoth, kind_of}
use Rattle.yaml_round_documents.specs.declared.difference.yaml_node_cause_t.{yaml_node_cause_t}
use Rattle.yaml_round_documents.specs.declared.difference.yaml_node_cause_t.TheVariants.{Kind, Value, Tag, KeyOrder, OnlyFirst, OnlySecond}
use Rattle.yaml_round_documents.specs.declared.difference.yaml_node_difference_t.{yaml_node_difference_t}
use Rattle.yaml_round_documents.specs.declared.walk.yaml_node_match_t.{yaml_node_match_t as Pair}
use Rattle.yaml_round_documents.specs.Matching.{in_order, matched}
use Rattle.yaml_round_documents.specs.Pairs.{AreReached, IsCompared, IsOneOf, NoneTwice, key_labels}

-- in what two nodes differ themselves
abbrev pub own_cause : NodeBody → NodeBody → List ℕ → List ℕ → Option yaml_node_cause_t
own_cause b c tag other_tag = if kind_of b == kind_of c then
    (if pointwise nat_eq (text_of b) (text_of c) then
    (if pointwise nat_eq tag other_tag then None else Some Tag) else Some Value)
    else Some Kind

abbrev pub told_cause : ℕ → Pair → Option yaml_node_cause_t → List yaml_node_difference_t
told_cause number p None = []
told_cause number p (Some c) = record {
  pair = number;
  first = p.first;
  second = p.second;
  cause = c;
  place = 0;
} ∷ []

-- what is at a place and has no partner
abbrev pub alone_at : ℕ → Pair → yaml_node_cause_t → ℕ → Option ℕ
    → List yaml_node_difference_t
alone_at number p c at None = record {
  pair = number;
  first = p.first;
  second = p.second;
  cause = c;
  place = at;
} ∷ []
alone_at number p c at (Some other) = []

-- from a place on
abbrev pub told_alone : ℕ → Pair → yaml_node_cause_t → ℕ → List (Option ℕ)
    → List yaml_node_difference_t
told_alone number p c at [] = []
told_alone number p c at (x ∷ partners) = alone_at number p c at x
    ++ told_alone number p c (suc at) partners

abbrev pub order_cause : Bool → Option yaml_node_cause_t
order_cause true = None
order_cause false = Some KeyOrder

-- in what they differ that they hold, by the labels of both
abbrev pub told_held : ℕ → Pair → List ℕ → List ℕ → List yaml_node_difference_t
told_held number p own others = told_cause number p (order_cause (in_order 0 (matched own others)))
    ++ told_alone number p OnlyFirst 0 (matched own others)
    ++ told_alone number p OnlySecond 0 (matched others own)

-- the differences of two nodes, whose pair has that number
abbrev pub told_of : (ℤ → ℕ) → (ℤ → ℕ) → List Node → List Node → ℕ → Pair
    → List yaml_node_difference_t
told_of first second nodes others number p =
    told_cause number p (own_cause (body_of_id nodes p.first) (body_of_id others p.second)
    (tag_of_id nodes p.first) (tag_of_id others p.second))
    ++ (if kind_of (body_of_id nodes p.first) == kind_of (body_of_id others p.second) then
    told_held number p (key_labels first (body_of_id nodes p.first))
    (key_labels second (body_of_id others p.second)) else [])

-- pair by pair, from a number on
abbrev pub told_in : (ℤ → ℕ) → (ℤ → ℕ) → List Node → List Node → ℕ → List Pair
    → List yaml_node_difference_t
told_in first second nodes others number [] = []
told_in first second nodes others number (p ∷ ps) = told_of first second nodes others number p
    ++ told_in first second nodes others (suc number) ps

-- All pairs of nodes that are compared, each once and after the one that holds it; and their
-- differences: by numbers of the nodes that are equal for those that are the same.
pub record AreDifferences (nodes others : List Node) (pairs : List Pair)
    (list : List yaml_node_difference_t) : Type 0 where
  pub first : ℤ → ℕ
  pub second : ℤ → ℕ
  pub tell : TellBoth nodes others first second
  pub once : NoneTwice pairs
  pub compared : (a b : ℤ) → IsOneOf a b pairs ↔ IsCompared nodes others first second a b
  pub reached : AreReached nodes others first second pairs
  pub told : list ≡ told_in first second nodes others 0 pairs
