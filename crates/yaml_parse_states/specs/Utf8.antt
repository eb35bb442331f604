-- The texts that a parser holds, and those of its events, are UTF-8.
use Rattle.std.specs.Prelude.{Option, Some, None}
use Rattle.yaml_parse_model.specs.Events.{Event}
use Rattle.yaml_parse_model.specs.Constructors.{HasUtf8, IsUtf8Option, AreUtf8}
use Rattle.yaml_scan_model.specs.declared.tokens.Tokens.{Ghosts}
use Rattle.yaml_scan_model.specs.Utf8.{IsUtf8Next}
use Rattle.yaml_parse_states.specs.declared.parser.Parser.{Parser}
use Rattle.yaml_parse_states.specs.declared.parser.State.{State}
use Rattle.yaml_parse_states.specs.declared.parser.State.TheVariants as state
use Rattle.yaml_parse_states.specs.declared.parser.Turn.{Turn}
use Rattle.yaml_parse_states.specs.declared.parser.Turn.TheVariants as turn
use Rattle.yaml_parse_states.specs.declared.parser.Step.{Step}
use Rattle.yaml_parse_states.specs.declared.parser.Step.TheVariants as step
use Rattle.yaml_parse_states.specs.Nodes.{anchor_of, tag_of}
use Rattle.yaml_parse_states.specs.Views.{directives_of, event_in}

-- of what stays between two events
pub record IsUtf8Kept {T P : Type 0} (g : Ghosts T P) (p : Parser T P) : Type 0 where
  pub next : IsUtf8Next g p.tokens
  pub tags : AreUtf8 (directives_of p.directives).tags

-- nothing is read of it any more where nothing comes
abbrev pub IsUtf8In : State → Type 0 → Type 0
IsUtf8In state.End kept = Unit {0}
IsUtf8In x kept = kept

abbrev pub IsUtf8Held : {T P : Type 0} → Ghosts T P → Parser T P → Type 0
IsUtf8Held g p = IsUtf8In p.state (IsUtf8Kept g p)

-- of a node in the making
pub record IsUtf8Named {T P : Type 0} (g : Ghosts T P) (p : Parser T P) : Type 0 where
  pub kept : IsUtf8Kept g p
  pub anchor : IsUtf8Option (anchor_of p)
  pub tag : IsUtf8Option (tag_of p)

-- of the event that was given, and of what stays
pub record IsUtf8Given {T P : Type 0} (g : Ghosts T P) (p : Parser T P) : Type 0 where
  pub kept : IsUtf8Kept g p
  pub event : HasUtf8 (event_in g p).body

abbrev pub IsUtf8After : {T P : Type 0} → Ghosts T P → Turn → Parser T P → Type 0
IsUtf8After g turn.Given p = IsUtf8Given g p
IsUtf8After g turn.BlockNode p = IsUtf8Kept g p
IsUtf8After g turn.IndentlessNode p = IsUtf8Kept g p
IsUtf8After g turn.FlowNode p = IsUtf8Kept g p
IsUtf8After g turn.Refused p = Unit {0}
IsUtf8After g turn.End p = Unit {0}

abbrev pub IsUtf8AfterContent : {T P : Type 0} → Ghosts T P → Option Turn → Parser T P → Type 0
IsUtf8AfterContent g None p = Unit {0}
IsUtf8AfterContent g (Some r) p = IsUtf8After g r p

-- after a directive
abbrev pub IsUtf8Noted : {T P : Type 0} → Ghosts T P → Turn → Parser T P → Type 0
IsUtf8Noted g turn.Given p = IsUtf8Kept g p
IsUtf8Noted g r p = Unit {0}

abbrev pub IsUtf8Stepped : {T P : Type 0} → Ghosts T P → Step → Parser T P → Type 0
IsUtf8Stepped g step.Event p = IsUtf8Given g p
IsUtf8Stepped g s p = Unit {0}

-- an event that was handed out, and what stays
pub record IsUtf8Told {T P : Type 0} (g : Ghosts T P) (e : Event) (new : Parser T P) : Type 0 where
  pub event : HasUtf8 e.body
  pub held : IsUtf8Held g new
