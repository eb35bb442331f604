-- What C receives of events that are composed.
use Rattle.std.specs.Prelude.{◌≡◌, ◌⊎◌, pos, ℕ, Bool, true, false, List, [], Option, None, Some}
use Rattle.yaml_parse.specs.declared.yaml_origin_t.TheVariants.{Loader}
use Rattle.yaml_parse.specs.scan_types.Faults.{memory_fault}
use Rattle.yaml_parse.specs.scan_types.Tokens.{zero_mark}
use Rattle.yaml_parse.specs.Numbering.{undefined_alias}
use Rattle.yaml_round_answers.specs.declared.graph_record.yaml_c_spot.{yaml_c_spot}
use Rattle.yaml_round_answers.specs.declared.graph_record.yaml_c_step.{yaml_c_step}
use Rattle.yaml_round_answers.specs.Composing.{are_steps, fresh_sketch, all_drawn, AreSpots}
use Rattle.yaml_round_answers.specs.declared.answer.yaml_c_answer.{yaml_c_answer}
use Rattle.yaml_round_answers.specs.Told.{TellsText, TellsFault}

abbrev pub Steps : Type 0
Steps = List ℕ × List yaml_c_step

abbrev pub steps_if : Bool → Steps → Option Steps
steps_if true m = Some m
steps_if false m = None

-- the records of events with the bytes of their names, where each means one
abbrev pub steps_meant : List ℕ → List yaml_c_step → Option Steps
steps_meant bytes steps = steps_if (are_steps bytes steps) (bytes, steps)

-- C learns that all events are composed, or that the next one is an alias that no node before it has the name of
abbrev pub TellsWhole : Bool → yaml_c_answer → Type 0
TellsWhole true a = TellsText [] (pos 0) a
TellsWhole false a = TellsFault (undefined_alias zero_mark) (pos 0) a

-- what the records come to, and so the events that they show
pub record AreComposed (m : Steps) (given : List yaml_c_spot) (whole : Bool) : Type 0 where
  pub walk : (given, whole) ≡ all_drawn m.0 m.1 fresh_sketch
  pub loads : AreSpots m.0 m.1 given whole

pub record TellsSpots (given : List yaml_c_spot) (m : Steps) (a : yaml_c_answer) : Type 0 where
  pub whole : Bool
  pub told : TellsWhole whole a
  pub composed : AreComposed m given whole

-- where memory was refused there is none; or those before an alias whose refusal has no room for its line
abbrev pub HoldsFew : List yaml_c_spot → Steps → Type 0
HoldsFew given m = (given ≡ []) ⊎ AreComposed m given false

-- C receives what the events come to, or that memory was refused.
abbrev pub Composes : List yaml_c_spot → Steps → yaml_c_answer → Type 0
Composes given m a = (TellsFault (memory_fault Loader) (pos 0) a × HoldsFew given m)
    ⊎ TellsSpots given m a

-- where a record means nothing, nothing is handed out
abbrev pub NoSpotUnmeant : {M : Type 0} → Option M → List yaml_c_spot → Type 0
NoSpotUnmeant None given = given ≡ []
NoSpotUnmeant (Some m) given = Unit {0}
