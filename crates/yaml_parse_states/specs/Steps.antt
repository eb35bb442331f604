-- What a call of the parser gives.
use Rattle.std.specs.Prelude.{◌≡◌, ◌⊎◌}
use Rattle.yaml_scan_model.specs.declared.tokens.Tokens.{Ghosts}
use Rattle.yaml_parse_states.specs.declared.parser.Parser.{Parser}
use Rattle.yaml_parse_states.specs.declared.parser.State.TheVariants as state
use Rattle.yaml_parse_states.specs.declared.parser.Turn.{Turn}
use Rattle.yaml_parse_states.specs.declared.parser.Turn.TheVariants as turn
use Rattle.yaml_parse_states.specs.declared.parser.Step.{Step}
use Rattle.yaml_parse_states.specs.declared.parser.Step.TheVariants as step
use Rattle.yaml_parse_states.specs.Views.{coming_of}
use Rattle.yaml_parse_states.specs.Turned.{GaveEvent, IsRefused, LacksMemory, Turned}

-- a state's function does its turn, or nothing is left
abbrev pub Turns : {T P : Type 0} → Ghosts T P → Parser T P → Turn → Parser T P → Type 0
Turns g old turn.End new = (new ≡ old) × (old.state ≡ state.End)
Turns g old r new = Turned g (coming_of g old) r new

-- the next event is given, or a fault is reported, or nothing is left
abbrev pub Steps : {T P : Type 0} → Ghosts T P → Parser T P → Step → Parser T P → Type 0
Steps g old step.Event new = GaveEvent g (coming_of g old) new
Steps g old step.Refused new = IsRefused g (coming_of g old) new
    ⊎ LacksMemory g (coming_of g old) new
Steps g old step.End new = (new ≡ old) × (old.state ≡ state.End)
