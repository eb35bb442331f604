-- Pairs of nodes of two documents.
use Rattle.std.specs.Prelude.{◌≡◌, ◌⊎◌, ◌<◌, ℕ, zero, suc, ℤ, pos, ◌==◌, if◌then◌else◌, List, [], ◌∷◌, ◌++◌, map, Option, Some, None, slice_get}
use Rattle.yaml_parse_model.specs.declared.yaml_node_pair_t.{yaml_node_pair_t}
use Rattle.yaml_parse_model.specs.Nodes.{Node, NodeBody}
use Rattle.yaml_parse_model.specs.Nodes as node
use Rattle.yaml_emit_graph.specs.Graph.{body_of_id}
use Rattle.yaml_round_documents.specs.Ranks.{kind_of}
use Rattle.yaml_round_documents.specs.declared.walk.yaml_node_match_t.{yaml_node_match_t as Pair}
use Rattle.yaml_round_documents.specs.Matching.{matched}

-- from a place on
abbrev pub places_from : ℕ → List ℤ → List ℕ
places_from at [] = []
places_from at (x ∷ xs) = at ∷ places_from (suc at) xs

-- The labels by which what a node holds is matched: of a pair that of its key, of an item its place.
abbrev pub key_labels : (ℤ → ℕ) → NodeBody → List ℕ
key_labels label node.no = []
key_labels label (node.scalar value style) = []
key_labels label (node.sequence items style) = places_from 0 items
key_labels label (node.mapping pairs style) = map (λ (p : yaml_node_pair_t). label p.key) pairs

-- what it holds: the items, or the values of the pairs
abbrev pub held_values : NodeBody → List ℤ
held_values node.no = []
held_values (node.scalar value style) = []
held_values (node.sequence items style) = items
held_values (node.mapping pairs style) = map (λ (p : yaml_node_pair_t). p.value) pairs

-- a pair, if there is one
abbrev pub listed : Option Pair → List Pair
listed None = []
listed (Some p) = p ∷ []

-- a node with another; the pair of that number holds them, the first one at that place
abbrev pub pair_with : ℕ → ℕ → ℤ → Option ℤ → List Pair
pair_with holder place a None = []
pair_with holder place a (Some b) = record {
  first = a;
  second = b;
  holder = holder;
  place = place;
} ∷ []

-- a node with the one at a place
abbrev pub pair_at : ℕ → ℕ → ℤ → List ℤ → Option ℕ → List Pair
pair_at holder place a others None = []
pair_at holder place a others (Some at) = pair_with holder place a (slice_get others at)

-- each, from a place on, with the one with which it is matched
abbrev pub pairs_by : ℕ → ℕ → List ℤ → List ℤ → List (Option ℕ) → List Pair
pairs_by holder place [] others partners = []
pairs_by holder place (a ∷ own) others [] = []
pairs_by holder place (a ∷ own) others (p ∷ partners) = pair_at holder place a others p
    ++ pairs_by holder (suc place) own others partners

-- what two nodes of one kind hold at one place, where their pair has that number
abbrev pub held_pairs : (ℤ → ℕ) → (ℤ → ℕ) → ℕ → NodeBody → NodeBody → List Pair
held_pairs first second number b c = if kind_of b == kind_of c then pairs_by number 0
    (held_values b) (held_values c) (matched (key_labels first b) (key_labels second c)) else []

-- that of the roots
abbrev pub roots : Pair
roots = record { first = pos 1; second = pos 1; holder = 0; place = 0 }

-- these are numbers of one of these pairs
abbrev pub IsOneOf : ℤ → ℤ → List Pair → Type 0
IsOneOf a b [] = ⊥
IsOneOf a b (p ∷ ps) = ((a ≡ p.first) × (b ≡ p.second)) ⊎ IsOneOf a b ps

-- a pair is one of these
abbrev pub IsAmong : Pair → List Pair → Type 0
IsAmong p [] = ⊥
IsAmong p (q ∷ qs) = (p ≡ q) ⊎ IsAmong p qs

-- no pair is there twice
abbrev pub NoneTwice : List Pair → Type 0
NoneTwice [] = Unit {0}
NoneTwice (p ∷ ps) = (IsOneOf p.first p.second ps → ⊥) × NoneTwice ps

-- The roots are compared; and what nodes that are compared hold at one place, where it isn't the
-- same. These are that many levels below the roots.
unfoldable pub ComparedAt : ℕ → List Node → List Node → (ℤ → ℕ) → (ℤ → ℕ) → ℤ → ℤ → Type 0
ComparedAt zero nodes others first second a b = (a ≡ pos 1) × (b ≡ pos 1)
ComparedAt (suc n) nodes others first second a b = (c : ℤ) × (d : ℤ)
    × ComparedAt n nodes others first second c d
    × IsOneOf a b (held_pairs first second 0 (body_of_id nodes c) (body_of_id others d))
    × (first a ≡ second b → ⊥)

abbrev pub IsCompared : List Node → List Node → (ℤ → ℕ) → (ℤ → ℕ) → ℤ → ℤ → Type 0
IsCompared nodes others first second a b = (n : ℕ) × ComparedAt n nodes others first second a b

-- A pair has the number of one before it, which is of nodes that hold these, at its place.
abbrev pub IsHeld : List Node → List Node → (ℤ → ℕ) → (ℤ → ℕ) → List Pair → ℕ → Pair → Type 0
IsHeld nodes others first second pairs at p = (h : Pair) × (p.holder < at)
    × (slice_get pairs p.holder ≡ Some h)
    × IsAmong p (held_pairs first second p.holder (body_of_id nodes h.first)
    (body_of_id others h.second))

-- The first pair is that of the roots, and each other one is held.
abbrev pub AreReached : List Node → List Node → (ℤ → ℕ) → (ℤ → ℕ) → List Pair → Type 0
AreReached nodes others first second pairs = (at : ℕ) (p : Pair) → slice_get pairs at ≡ Some p
    → ((at ≡ 0) × (p ≡ roots)) ⊎ IsHeld nodes others first second pairs at p
