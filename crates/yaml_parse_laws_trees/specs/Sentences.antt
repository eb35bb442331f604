-- Sentences that go on with tokens, and the events before a fault.
use Rattle.std.specs.Prelude.{◌≡◌, List, [], ◌∷◌, ◌++◌, Option, None}
use Rattle.yaml_parse_model.specs.scan_types.Tokens.{Token}
use Rattle.yaml_parse_model.specs.scan_types.Faults.{Fault}
use Rattle.yaml_parse_laws_trees.specs.parse_grammar.Trees.{Stream, spell}
use Rattle.yaml_parse_laws_trees.specs.parse_grammar.TreeEvents.{given_of}
use Rattle.yaml_parse_laws_trees.specs.parse_grammar.Resolve.{Told, reading, no_directives}
use Rattle.yaml_parse_laws_trees.specs.SoundLaws.{told, BeginsWithEvents}
use Rattle.yaml_parse_laws_trees.specs.Places.{IsFree, BeginsWithSentence}
use Rattle.yaml_parse_laws_trees.specs.GivenLaws.{events_run}

-- A sentence goes on with the tokens: they are a front of those of a tree without a fault, so that its directives and
-- its tag handles are in order.
pub record SentenceGoesOn (ts : List Token) : Type 0 where
  pub tree : Stream
  pub more : List Token
  pub same : ts ++ more ≡ spell tree []
  pub free : IsFree (spell tree [])

-- none goes on with one token more
abbrev pub NoneLonger : List Token → List Token → Type 0
NoneLonger front [] = Unit {0}
NoneLonger front (t ∷ ts) = SentenceGoesOn (front ++ t ∷ []) → ⊥

-- what a tree's tokens mean
abbrev pub events_of_tree : Stream → List Told
events_of_tree t = (reading (given_of t 0) None no_directives).events

-- The events begin those of a sentence that goes on with the longest front of the tokens with which one does.
pub record BeginsSentence (ts : List Token) (events : List Told) : Type 0 where
  pub front : List Token
  pub behind : List Token
  pub list : ts ≡ front ++ behind
  pub longest : NoneLonger front behind
  pub sentence : SentenceGoesOn front
  pub begins : BeginsWithEvents (told events) (told (events_of_tree sentence.tree))

-- Of tokens that don't begin with those of a sentence the machine's events begin those of one: its directives and tag handles
-- are in order, whether the fault is the grammar's, a directive's, a handle's or the tokens' own.
abbrev pub RunBeginsSentence : Type 0
RunBeginsSentence = (ts : List Token) (own : Option Fault) → (BeginsWithSentence ts → ⊥)
    → BeginsSentence ts (events_run ts own)
