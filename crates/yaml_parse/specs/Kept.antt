-- What is known of all events that are a list's.
use Rattle.std.specs.Prelude.{List, Option, length}
use Rattle.yaml_scan_model.specs.scan_types.Tokens.{Token}
use Rattle.yaml_scan_model.specs.scan_types.Faults.{Fault}
use Rattle.yaml_parse_grammar.specs.Resolve.{Told}
use Rattle.yaml_parse_laws_trees.specs.SoundLaws.{BeginsWithTree}
use Rattle.yaml_parse_laws_trees.specs.CountsLaws.{AtMostFourSoFar}
use Rattle.yaml_parse_laws_trees.specs.Given.{EventsOfTokens, GivesLeast}
use Rattle.yaml_parse_laws_trees.specs.Places.{BeginsWithSentence}
use Rattle.yaml_parse_laws_trees.specs.Sentences.{BeginsSentence}
use Rattle.yaml_parse.specs.Fronts.{BeginsTree}

-- As each event is given, no more have come than four for each token that was asked for by then.
abbrev pub EventsAreFew : Type 0
EventsAreFew = (ts : List Token) (own : Option Fault) (events : List Told)
    → EventsOfTokens ts own events → AtMostFourSoFar 0 (length ts) events

-- Where the tokens don't begin with those of a tree, the events begin those of a tree that goes on with the longest front of them
-- with which one does.
abbrev pub EventsBeginTree : Type 0
EventsBeginTree = (ts : List Token) (own : Option Fault) (events : List Told)
    → EventsOfTokens ts own events → (BeginsWithTree ts → ⊥) → BeginsTree ts events

-- And they begin with all that every such tree gives with no token asked for after that front.
abbrev pub EventsAreLeast : Type 0
EventsAreLeast = (ts : List Token) (own : Option Fault) (events : List Told)
    → EventsOfTokens ts own events → (BeginsWithTree ts → ⊥) → GivesLeast ts events

-- Where the tokens don't begin with those of a sentence, the events begin those of a sentence, of a tree whose directives and tag
-- handles are in order: one that goes on with the longest front of the tokens with which one does.
abbrev pub EventsBeginSentence : Type 0
EventsBeginSentence = (ts : List Token) (own : Option Fault) (events : List Told)
    → EventsOfTokens ts own events → (BeginsWithSentence ts → ⊥) → BeginsSentence ts events
