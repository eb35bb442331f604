-- The machine's events are the list's.
use Rattle.std.specs.Prelude.{◌≡◌, false, List, Option}
use Rattle.yaml_parse_model.specs.scan_types.Tokens.{Token}
use Rattle.yaml_parse_model.specs.scan_types.Faults.{Fault}
use Rattle.yaml_parse_laws_trees.specs.parse_grammar.Trees.{next}
use Rattle.yaml_parse_laws_trees.specs.parse_grammar.Machine.{run, initial}
use Rattle.yaml_parse_laws_trees.specs.parse_grammar.Resolve.{Told, no_directives}
use Rattle.yaml_parse_laws_trees.specs.parse_grammar.Remaining.{reading_of}
use Rattle.yaml_parse_laws_trees.specs.SoundLaws.{BeginsWithTree}
use Rattle.yaml_parse_laws_trees.specs.Given.{LongestFront, gives_no_more, EndsAt, GivesLeast, EventsOfTokens}

-- the machine's events
abbrev pub events_run : List Token → Option Fault → List Told
events_run ts own = (reading_of (run ts initial own) no_directives).events

-- A tree goes on with the longest front, and where something may be given after that, one that has an end there.
pub record HasFront (ts : List Token) (own : Option Fault) : Type 0 where
  pub front : LongestFront ts
  pub ends : gives_no_more front own ≡ false → EndsAt (next front.behind) front.more

-- Tokens that don't begin with those of a tree have a longest front.
abbrev pub ListHasFront : Type 0
ListHasFront = (ts : List Token) (own : Option Fault) → (BeginsWithTree ts → ⊥) → HasFront ts own

-- A list's events are one list.
abbrev pub EventsAreOne : Type 0
EventsAreOne = (ts : List Token) (own : Option Fault) (x y : List Told)
    → EventsOfTokens ts own x → EventsOfTokens ts own y → x ≡ y

-- The machine gives them.
abbrev pub RunGivesEvents : Type 0
RunGivesEvents = (ts : List Token) (own : Option Fault) → EventsOfTokens ts own (events_run ts own)

-- And nothing else has the list's events.
abbrev pub EventsAreRun : Type 0
EventsAreRun = (ts : List Token) (own : Option Fault) (events : List Told)
    → EventsOfTokens ts own events → events ≡ events_run ts own

-- What every tree gives with no token asked for after the front, the machine gives.
abbrev pub RunGivesLeast : Type 0
RunGivesLeast = (ts : List Token) (own : Option Fault) → (BeginsWithTree ts → ⊥)
    → GivesLeast ts (events_run ts own)
