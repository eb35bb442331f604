-- What a state's function does of what is to come.
use Rattle.std.specs.Prelude.{◌≡◌, ◌⊎◌, ◌≤◌, ℕ, Bool, true, List, [], ◌∷◌, length, reverse, Option, Some, None}
use Rattle.yaml_parse_model.specs.Source.{front_of, rest_of, MayAnswer}
use Rattle.yaml_parse_model.specs.Events.{Event, EventBody}
use Rattle.yaml_parse_grammar.specs.declared.name.Choice.TheVariants.{Take}
use Rattle.yaml_parse_grammar.specs.States as grammar
use Rattle.yaml_parse_grammar.specs.Machine.{choice_at, taken_at, taken}
use Rattle.yaml_parse_grammar.specs.Trees.{event_at}
use Rattle.yaml_parse_grammar.specs.Resolve.{behind_event}
use Rattle.yaml_scan_model.specs.declared.kind.Kind.{Kind}
use Rattle.yaml_scan_model.specs.Kinds.{IsOf, is_fault, type_by, token_by}
use Rattle.yaml_scan_model.specs.Shows.{Shows, left_behind}
use Rattle.yaml_scan_model.specs.Texts.{AreTextsOf}
use Rattle.yaml_parse_states.specs.declared.event.EventKind.{EventKind}
use Rattle.yaml_parse_states.specs.declared.parser.State.{State}
use Rattle.yaml_parse_model.specs.scan_types.Tokens.{Token}
use Rattle.yaml_parse_model.specs.scan_types.Faults.{Fault, memory_fault, IsMemoryFault, scan_layers}
use Rattle.yaml_parse_model.specs.declared.yaml_origin_t.TheVariants.{Parser as ParserLayer}
use Rattle.yaml_parse_grammar.specs.declared.name.Wants.{Wants}
use Rattle.yaml_parse_grammar.specs.declared.name.Wants.TheVariants.{Flow, Block}
use Rattle.yaml_parse_grammar.specs.declared.problem.ParseProblem.{ParseProblem}
use Rattle.yaml_parse_grammar.specs.declared.problem.ParseProblem.TheVariants as problem
use Rattle.yaml_parse_grammar.specs.Problems.{parser_fault}
use Rattle.yaml_parse_model.specs.declared.yaml_mark_t.{yaml_mark_t}
use Rattle.yaml_parse_grammar.specs.Remaining.{next_unasked}
use Rattle.yaml_scan_model.specs.declared.tokens.Tokens.{Ghosts}
use Rattle.yaml_parse_states.specs.declared.parser.Parser.{Parser}
use Rattle.yaml_parse_states.specs.declared.parser.Refusal.{Refusal}
use Rattle.yaml_parse_states.specs.declared.parser.Refusal.TheVariants as refusal
use Rattle.yaml_parse_states.specs.declared.parser.State.TheVariants as state
use Rattle.yaml_parse_states.specs.declared.parser.Turn.{Turn}
use Rattle.yaml_parse_states.specs.declared.parser.Turn.TheVariants as turn
use Rattle.yaml_parse_states.specs.Coming.{Coming, ahead, stopped}
use Rattle.yaml_parse_states.specs.Views.{bare, bare_event, below_of, body_in, coming_of, coming_with, directives_of, node_coming, event_in, behind, opener, side_of, stack}

-- ---- what parts of it do

-- that event is given, with that state after it
pub record Gives {T P : Type 0} (g : Ghosts T P) (next : State) (e : Event)
    (old new : Parser T P) : Type 0 where
  pub same : new ≡ record old { state = next; event = new.event }
  pub event : event_in g new ≡ e

-- the token that is next is taken
pub record IsTaken {T P : Type 0} (g : Ghosts T P) (old new : T) : Type 0 where
  pub rest : g.to_come new ≡ rest_of (g.to_come old)
  pub fault : g.fault_to_come new ≡ g.fault_to_come old
  pub texts : AreTextsOf (front_of (g.to_come old)).body (g.texts new)
  pub unasked : g.unasked new ≡ length (g.to_come new)
  pub places : g.mark_of new ≡ g.mark_of old

-- the token that is next is taken, and gives an event of that kind, with that state after it
pub record Takes {T P : Type 0} (g : Ghosts T P) (k : EventKind) (next : State)
    (old new : Parser T P) : Type 0 where
  pub same : new ≡ record old { tokens = new.tokens; state = next; event = new.event }
  pub token : IsTaken g old.tokens new.tokens
  pub event : event_in g new ≡ bare_event k (g.texts new.tokens)
      (front_of (g.to_come old.tokens)).start_mark
      (front_of (g.to_come old.tokens)).end_mark old

-- a collection opens where the token that is next starts
pub record Opens {T P : Type 0} (g : Ghosts T P) (old new : Parser T P) : Type 0 where
  pub start : opener (g.mark_of new.tokens) (reverse new.levels.items)
      ≡ (front_of (g.to_come old.tokens)).start_mark
  pub next : behind (reverse new.levels.items) ≡ old.state
  pub below : below_of g new ≡ stack (g.mark_of old.tokens) old.state (reverse old.levels.items)

-- the kind of the token that is next was asked for
pub record Looks {T P : Type 0} (g : Ghosts T P) (k : Kind) (old new : Parser T P) : Type 0 where
  pub same : new ≡ record old { tokens = new.tokens }
  pub shows : Shows k (g.to_come old.tokens) (g.fault_to_come old.tokens) (g.to_come new.tokens)
      (g.fault_to_come new.tokens)
  pub tells : g.tells new.tokens (is_fault k)
  pub unasked : g.unasked new.tokens ≡ left_behind (g.to_come new.tokens)
  pub places : g.mark_of new.tokens ≡ g.mark_of old.tokens

abbrev pub LooksFor : {T P : Type 0} → Ghosts T P → Bool → Parser T P → Parser T P → Type 0
LooksFor g b old new = (k : Kind) × (b ≡ is_fault k) × Looks g k old new

-- the fault of a refusal, where the tokens are those
abbrev pub Means : {T P : Type 0} → Ghosts T P → T → Refusal → Fault → Type 0
Means g ts refusal.OfTokens f = g.tells ts true × (g.fault_to_come ts ≡ Some f)
Means g ts refusal.LackOfMemory f = f ≡ memory_fault ParserLayer
Means g ts (refusal.Wrong w) f = f ≡ parser_fault w.problem w.problem_mark w.context_mark

-- the refusal of a fault is kept
pub record Keeps {T P : Type 0} (g : Ghosts T P) (f : Fault) (p : Parser T P) : Type 0 where
  pub refusal : Refusal
  pub kept : p.refusal ≡ Some refusal
  pub means : Means g p.tokens refusal f

-- a fault is reported, and nothing is left
pub record Refuses {T P : Type 0} (g : Ghosts T P) (f : Fault) (old new : Parser T P) : Type 0 where
  pub fault : Fault
  pub told : Keeps g fault new
  pub is : fault ≡ f
  pub over : new.state ≡ state.End
  pub unasked : g.unasked new.tokens ≡ g.unasked old.tokens

-- where the context of a refusal begins: at the collection that is open, for the faults that name it, or else at the token
abbrev pub context_at : ParseProblem → yaml_mark_t → yaml_mark_t → yaml_mark_t
context_at problem.NoDash o start = o
context_at problem.NoKey o start = o
context_at problem.NoSequenceEnd o start = o
context_at problem.NoMappingEnd o start = o
context_at p o start = start

-- the fault of a token that is wrong
abbrev pub fault_at : {T P : Type 0} → Ghosts T P → ParseProblem → Parser T P → Fault
fault_at g p old = parser_fault p (front_of (g.to_come old.tokens)).start_mark
    (context_at p (opener (g.mark_of old.tokens) (reverse old.levels.items))
    (front_of (g.to_come old.tokens)).start_mark)

-- memory ran out as tokens were scanned, and nothing else comes
pub record IsLost (ts : List Token) (f : Option Fault) : Type 0 where
  pub none : ts ≡ []
  pub told : Fault
  pub ends : f ≡ Some told
  pub memory : IsMemoryFault scan_layers told

-- an event was given, which was the next one, and the rest is left
pub record GaveEvent {T P : Type 0} (g : Ghosts T P) (was : Coming) (new : Parser T P) : Type 0
  where
    pub unasked : ℕ
    pub left : g.unasked new.tokens ≡ unasked
    pub next : was ≡ ahead (event_in g new) unasked (coming_of g new)

-- a fault was reported, the next one or that of the memory of a layer that scans, and nothing is
-- left
pub record IsRefused {T P : Type 0} (g : Ghosts T P) (was : Coming) (new : Parser T P) : Type 0
  where
    pub fault : Fault
    pub told : Keeps g fault new
    pub over : new.state ≡ state.End
    pub unasked : ℕ
    pub left : g.unasked new.tokens ≡ unasked
    pub reason : IsMemoryFault scan_layers fault ⊎ (was ≡ stopped fault unasked)

-- The fault of the tokens is reported, or that of the token which is next, where it is what comes.
abbrev pub RefusesNext : {T P : Type 0} → Ghosts T P → ParseProblem → Parser T P → Parser T P
    → Type 0
RefusesNext g p old new = (was : Coming)
    → ((f : Fault) → g.to_come old.tokens ≡ [] → g.fault_to_come old.tokens ≡ Some f
    → was ≡ stopped f 0)
    → ((k : Kind) → MayAnswer (g.to_come old.tokens) (g.fault_to_come old.tokens)
    → IsOf k (front_of (g.to_come old.tokens)).body
    → was ≡ stopped (fault_at g p old) (left_behind (g.to_come old.tokens)))
    → IsRefused g was new

-- memory ran out in the parser, with no token asked for after the place of what is next, and nothing is left
pub record LacksMemory {T P : Type 0} (g : Ghosts T P) (was : Coming) (new : Parser T P)
    : Type 0 where
  pub fault : Fault
  pub told : Keeps g fault new
  pub over : new.state ≡ state.End
  pub unasked : ℕ
  pub left : g.unasked new.tokens ≡ unasked
  pub memory : fault ≡ memory_fault ParserLayer
  pub asked : next_unasked was.events was.ending_unasked ≤ unasked

-- a node has to come, of those, or memory ran out
abbrev pub AwaitsNode : {T P : Type 0} → Ghosts T P → Wants → Coming → Parser T P → Type 0
AwaitsNode g w was new = (was ≡ node_coming g w new)
    ⊎ IsLost (g.to_come new.tokens) (g.fault_to_come new.tokens)

abbrev pub Turned : {T P : Type 0} → Ghosts T P → Coming → Turn → Parser T P → Type 0
Turned g was turn.Given new = GaveEvent g was new
Turned g was turn.BlockNode new = AwaitsNode g (Block None) was new
Turned g was turn.IndentlessNode new = AwaitsNode g (Block (Some (side_of new.state))) was new
Turned g was turn.FlowNode new = AwaitsNode g Flow was new
Turned g was turn.Refused new = IsRefused g was new ⊎ LacksMemory g was new
Turned g was turn.End new = ⊥

-- The innermost collection ends with the token that is next, by each state that takes it for that event.
abbrev pub Ends : {T P : Type 0} → Ghosts T P → Kind → EventKind → Parser T P → Turn → Parser T P
    → Type 0
Ends g token k old r new = (x : grammar.State) (b : EventBody)
    → choice_at x (type_by token) ≡ Take
    → taken_at x (token_by token (front_of (g.to_come old.tokens)))
    ≡ taken (Some (event_at b (front_of (g.to_come old.tokens)).start_mark
    (front_of (g.to_come old.tokens)).end_mark)) []
    → body_in (bare k old.event) old.anchor.items old.tag.items (g.texts new.tokens)
    (directives_of old.directives) ≡ b
    → behind_event b (directives_of old.directives) ≡ directives_of old.directives
    → Turned g (coming_with g (x ∷ below_of g old) old) r new
