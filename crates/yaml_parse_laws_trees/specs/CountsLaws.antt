-- Which trees have the same tokens, and how many events come of tokens.
use Rattle.std.specs.Prelude.{◌≡◌, ◌≤◌, ◌+◌, ◌*◌, ℕ, List, [], ◌∷◌, Option, length}
use Rattle.yaml_parse_grammar.specs.scan_types.Tokens.{Token}
use Rattle.yaml_parse_grammar.specs.scan_types.Faults.{Fault}
use Rattle.yaml_parse_grammar.specs.Trees.{Stream, spell}
use Rattle.yaml_parse_grammar.specs.TreeEvents.{tree_events, tree_turns, tokens_in, unasked, given_of}
use Rattle.yaml_parse_grammar.specs.TreeSteps.{items}
use Rattle.yaml_parse_grammar.specs.Machine.{run, initial}
use Rattle.yaml_parse_grammar.specs.Resolve.{Directives}
use Rattle.yaml_parse_grammar.specs.Remaining.{reading_of}

-- Trees whose tokens begin alike are equal, and so is what follows them: equal tokens have one tree, and no tree's tokens begin another's.
abbrev pub TokensHaveOneTree : Type 0
TokensHaveOneTree = (s t : Stream) (x y : List Token) → spell s x ≡ spell t y → (s ≡ t) × (x ≡ y)

-- A tree's turns ask for as many tokens as it has, and give as many events.
pub record TurnsFit (t : Stream) (rest : List Token) : Type 0 where
  pub tokens : length (spell t rest) ≡ tokens_in (tree_turns t) + length rest
  pub events : length (unasked (tree_turns t) (length rest)) ≡ length (tree_events t)

abbrev pub TurnsFitTree : Type 0
TurnsFitTree = (t : Stream) (rest : List Token) → TurnsFit t rest

-- The form that computes a tree's events is these events, each with the number of tokens that its turns leave unasked for.
abbrev pub ItemsAreGiven : Type 0
ItemsAreGiven = (t : Stream) (rest : List Token) → items t rest ≡ given_of t (length rest)

-- Each event comes with the number of tokens, of that many in all, that are not asked for when it
-- is given. The events up to it are at most four times the tokens asked for, where that many were
-- given before these.
abbrev pub AtMostFourSoFar : {A : Type 0} → ℕ → ℕ → List (A × ℕ) → Type 0
AtMostFourSoFar given all [] = Unit {0}
AtMostFourSoFar given all (e ∷ es) = (given + 1 + 4 * e.1 ≤ 4 * all)
    × AtMostFourSoFar (given + 1) all es

-- Of each list of tokens.
abbrev pub EventsAreFewSoFar : Type 0
EventsAreFewSoFar = (ts : List Token) (f : Option Fault) (ds : Directives)
    → AtMostFourSoFar 0 (length ts) (reading_of (run ts initial f) ds).events
