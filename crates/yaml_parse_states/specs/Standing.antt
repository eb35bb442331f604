-- How states are above open collections, and what the event that was given says of them.
use Rattle.std.specs.Prelude.{◌≡◌, Bool, true, false, List, [], ◌∷◌, reverse, Option, Some, None}
use Rattle.yaml_parse_model.specs.Events.{Event}
use Rattle.yaml_parse_grammar.specs.Remaining.{is_between}
use Rattle.yaml_parse_grammar.specs.Stacks.{parts_documents_behind}
use Rattle.yaml_scan_model.specs.declared.tokens.Tokens.{Ghosts}
use Rattle.yaml_parse_states.specs.Views.{stack}
use Rattle.yaml_parse_states.specs.declared.event.EventKind.{EventKind}
use Rattle.yaml_parse_states.specs.declared.event.EventKind.TheVariants as kind
use Rattle.yaml_parse_states.specs.declared.parser.Level.{Level}
use Rattle.yaml_parse_states.specs.declared.parser.Parser.{Parser}
use Rattle.yaml_parse_states.specs.declared.parser.State.{State}
use Rattle.yaml_parse_states.specs.declared.parser.State.TheVariants as state
use Rattle.yaml_parse_states.specs.declared.parser.Turn.{Turn}
use Rattle.yaml_parse_states.specs.declared.parser.Turn.TheVariants as turn
use Rattle.yaml_parse_states.specs.declared.parser.Step.{Step}
use Rattle.yaml_parse_states.specs.declared.parser.Step.TheVariants as step

-- no document is half taken
abbrev pub between_in : State → Bool
between_in state.StreamStart = true
between_in state.FirstDocument = true
between_in state.DocumentStart = true
between_in state.End = true
between_in x = false

-- none is after such an event
abbrev pub between_behind : EventKind → Bool
between_behind kind.StreamStart = true
between_behind kind.StreamEnd = true
between_behind kind.DocumentEnd = true
between_behind k = false

-- the state of a collection
abbrev pub IsInner : State → Type 0
IsInner state.StreamStart = ⊥
IsInner state.FirstDocument = ⊥
IsInner state.DocumentStart = ⊥
IsInner state.DocumentContent = ⊥
IsInner state.DocumentEnd = ⊥
IsInner state.End = ⊥
IsInner x = Unit {0}

-- the state after a node: a document's end, or a collection's in others
abbrev pub IsBehind : State → Type 0 → Type 0
IsBehind state.StreamStart nested = ⊥
IsBehind state.FirstDocument nested = ⊥
IsBehind state.DocumentStart nested = ⊥
IsBehind state.DocumentContent nested = ⊥
IsBehind state.End nested = ⊥
IsBehind state.DocumentEnd nested = Unit {0}
IsBehind x nested = nested

-- of open collections, the innermost first, the outermost is a document's
abbrev pub AreNested : {P : Type 0} → List (Level P) → Type 0
AreNested [] = ⊥
AreNested (l ∷ ls) = IsBehind l.next (AreNested ls)

-- a collection's state is in one
abbrev pub StandsIn : {P : Type 0} → State → List (Level P) → Type 0
StandsIn state.StreamStart ls = Unit {0}
StandsIn state.FirstDocument ls = Unit {0}
StandsIn state.DocumentStart ls = Unit {0}
StandsIn state.DocumentContent ls = Unit {0}
StandsIn state.DocumentEnd ls = Unit {0}
StandsIn state.End ls = Unit {0}
StandsIn x ls = AreNested ls

-- of a parser
abbrev pub AreOpen : {T P : Type 0} → Parser T P → Type 0
AreOpen p = AreNested (reverse p.levels.items)

abbrev pub Stands : {T P : Type 0} → Parser T P → Type 0
Stands p = StandsIn p.state (reverse p.levels.items)

-- a node has come whole, or has to
abbrev pub StandsBehind : {T P : Type 0} → Parser T P → Type 0
StandsBehind p = IsBehind p.state (AreNested (reverse p.levels.items))

-- the state is such, and the event says whether a document is half taken
pub record Stood {T P : Type 0} (p : Parser T P) : Type 0 where
  pub stands : Stands p
  pub between : between_in p.state ≡ between_behind p.event.kind

abbrev pub StandsAfter : {T P : Type 0} → Turn → Parser T P → Type 0
StandsAfter turn.Given p = Stood p
StandsAfter turn.BlockNode p = StandsBehind p
StandsAfter turn.IndentlessNode p = StandsBehind p
StandsAfter turn.FlowNode p = StandsBehind p
StandsAfter turn.Refused p = Unit {0}
StandsAfter turn.End p = Unit {0}

abbrev pub StandsAfterContent : {T P : Type 0} → Option Turn → Parser T P → Type 0
StandsAfterContent None p = Unit {0}
StandsAfterContent (Some r) p = StandsAfter r p

abbrev pub StandsStepped : {T P : Type 0} → Step → Parser T P → Type 0
StandsStepped step.Event p = Stood p
StandsStepped s p = Unit {0}

-- a node is awaited
abbrev pub IsAwaiting : Turn → Type 0
IsAwaiting turn.BlockNode = Unit {0}
IsAwaiting turn.IndentlessNode = Unit {0}
IsAwaiting turn.FlowNode = Unit {0}
IsAwaiting r = ⊥

-- an event says whether a document is half taken, in the words of the grammar's states
pub record StandsTold {T P : Type 0} (g : Ghosts T P) (e : Event) (new : Parser T P) : Type 0 where
  pub stands : Stands new
  pub between : is_between (stack (g.mark_of new.tokens) new.state (reverse new.levels.items))
      ≡ parts_documents_behind e.body
