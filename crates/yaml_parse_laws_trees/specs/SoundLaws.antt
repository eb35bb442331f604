-- Which lists of tokens the machine accepts.
use Rattle.std.specs.Prelude.{◌≡◌, ◌⊎◌, List, [], ◌∷◌, ◌++◌, length, Option, Some, None}
use Rattle.yaml_parse_laws_trees.specs.parse_grammar.parse_model.declared.yaml_mark_t.{yaml_mark_t}
use Rattle.yaml_parse_laws_trees.specs.parse_grammar.parse_model.declared.yaml_error_type_t.TheVariants.{YAML_PARSER_ERROR}
use Rattle.yaml_parse_laws_trees.specs.parse_grammar.parse_model.declared.yaml_origin_t.TheVariants.{Parser}
use Rattle.yaml_parse_model.specs.scan_types.Tokens.{Token, zero_mark}
use Rattle.yaml_parse_model.specs.scan_types.Faults.{Fault}
use Rattle.yaml_parse_laws_trees.specs.parse_grammar.parse_model.Events.{Event}
use Rattle.yaml_parse_laws_trees.specs.parse_grammar.Items.{RawEvent}
use Rattle.yaml_parse_laws_trees.specs.parse_grammar.Trees.{Stream, spell, Given}
use Rattle.yaml_parse_laws_trees.specs.parse_grammar.TreeEvents.{given_of}
use Rattle.yaml_parse_laws_trees.specs.parse_grammar.Machine.{run, initial}
use Rattle.yaml_parse_laws_trees.specs.parse_grammar.Resolve.{Told, Directives, reading, no_directives}
use Rattle.yaml_parse_laws_trees.specs.parse_grammar.Remaining.{reading_of}

-- the list begins with the tokens of a tree
pub record BeginsWithTree (ts : List Token) : Type 0 where
  pub tree : Stream
  pub rest : List Token
  pub same : ts ≡ spell tree rest

-- The list begins with a sentence, as the machine reads it: a tree whose directives and tag handles
-- are in order
pub record BeginsWithTreeInOrder (ts : List Token) : Type 0 where
  pub tree : Stream
  pub rest : List Token
  pub same : ts ≡ spell tree rest
  pub in_order : (reading (given_of tree (length rest)) None no_directives).ending ≡ None

-- A list that ends in no fault begins with the tokens of a tree.
abbrev pub AcceptedAreTrees : Type 0
AcceptedAreTrees = (ts : List Token) (f : Option Fault) → (run ts initial f).ending ≡ None
    → BeginsWithTree ts

-- With directives and tag handles: it begins with a sentence.
abbrev pub AcceptedAreSentences : Type 0
AcceptedAreSentences = (ts : List Token) (f : Option Fault)
    → (reading_of (run ts initial f) no_directives).ending ≡ None → BeginsWithTreeInOrder ts

-- And each list that begins with a sentence ends in no fault.
abbrev pub SentencesAreAccepted : Type 0
SentencesAreAccepted = (ts : List Token) (f : Option Fault) → BeginsWithTreeInOrder ts
    → (reading_of (run ts initial f) no_directives).ending ≡ None

-- ---- where a list is refused

-- a tree goes on with the list: it is a front of the tree's tokens
pub record GoesOn (ts : List Token) : Type 0 where
  pub tree : Stream
  pub more : List Token
  pub same : ts ++ more ≡ spell tree []

-- items without the numbers of tokens that are not asked for
abbrev pub bare : List Given → List RawEvent
bare [] = []
bare (g ∷ gs) = g.0 ∷ bare gs

-- items begin with these
pub record BeginsWithItems (is : List RawEvent) (gs : List Given) : Type 0 where
  pub others : List RawEvent
  pub same : bare gs ≡ is ++ others

-- a tree goes on with the list, and its items begin with these
pub record TreeGoesOnGiving (ts : List Token) (given : List RawEvent) : Type 0 where
  pub tree : Stream
  pub more : List Token
  pub same : ts ++ more ≡ spell tree []
  pub begins : BeginsWithItems given (given_of tree 0)

-- a fault of the parser, at a mark
pub record StandsAtLoad (mark : yaml_mark_t) (e : Fault) : Type 0 where
  pub kind : e.kind ≡ YAML_PARSER_ERROR
  pub origin : e.origin ≡ Parser
  pub place : e.problem_mark ≡ mark

-- the fault is at the first token that no tree goes on with; what was given begins the items of a tree that goes on with those before it
pub record RefusedAt (ts : List Token) (given : List RawEvent) (e : Fault) : Type 0 where
  pub front : List Token
  pub token : Token
  pub behind : List Token
  pub list : ts ≡ front ++ token ∷ behind
  pub before : TreeGoesOnGiving front given
  pub wrong : GoesOn (front ++ token ∷ []) → ⊥
  pub stands : StandsAtLoad token.start_mark e

-- a tree goes on with the whole list and gives what was given: the fault is the source's own, or where it has none, is at the empty token after the list
pub record RunsOut (ts : List Token) (f : Option Fault) (given : List RawEvent) (e : Fault) : Type 0
  where
    pub before : TreeGoesOnGiving ts given
    pub own : (f ≡ Some e) ⊎ ((f ≡ None) × StandsAtLoad zero_mark e)

-- A list ends in a fault at the first token that no tree goes on with, or else after its last token.
abbrev pub FaultsStandAtFirst : Type 0
FaultsStandAtFirst = (ts : List Token) (f : Option Fault) (e : Fault) → (run ts initial f).ending
    ≡ Some e
    → RefusedAt ts (bare (run ts initial f).items) e ⊎ RunsOut ts f (bare (run ts initial f).items)
    e

-- No token is refused of a list with which a tree goes on.
abbrev pub FrontsAreNotRefused : Type 0
FrontsAreNotRefused = (ts : List Token) (f : Option Fault) (e : Fault) → GoesOn ts
    → (run ts initial f).ending ≡ Some e → RunsOut ts f (bare (run ts initial f).items) e

-- ---- events

-- events without the numbers of tokens that are not asked for
abbrev pub told : List Told → List Event
told [] = []
told (g ∷ gs) = g.0 ∷ told gs

-- events begin with these
pub record BeginsWithEvents (es fs : List Event) : Type 0 where
  pub others : List Event
  pub same : fs ≡ es ++ others

-- Where items begin with others, their events begin with the others' events, up to the first fault of a directive or handle.
abbrev pub EventsBeginAsItems : Type 0
EventsBeginAsItems = (gs hs : List Given) (f g : Option Fault) (ds : Directives)
    → BeginsWithItems (bare gs) hs → BeginsWithEvents (told (reading gs f ds).events)
    (told (reading hs g ds).events)
