-- Which events are let out, and what is written for them.
use Rattle.std.specs.Prelude.{◌≡◌, ◌⊎◌, Bool, true, false, if◌then◌else◌, ℕ, zero, suc, List, [], ◌∷◌, ◌++◌, drop, Option, Some, None}
use Rattle.std.specs.List.{list_any}
use Rattle.yaml_emit_layout.specs.declared.Settings.{Settings}
use Rattle.yaml_emit_layout.specs.Text.{Item}
use Rattle.yaml_emit_layout.specs.Layout.{Layout, stay, nothing_more}
use Rattle.yaml_emit_layout.specs.Sink.{Output, Ends}
use Rattle.yaml_emit_layout.specs.declared.Problem.{Problem}
use Rattle.yaml_emit_layout.specs.declared.Level.{Level}
use Rattle.yaml_emit_layout.specs.declared.Phase.{Phase}
use Rattle.yaml_emit_layout.specs.declared.Phase.TheVariants.{Items, Keys, Value}
use Rattle.yaml_emit_layout.specs.declared.Expected.{Expected}
use Rattle.yaml_emit_layout.specs.declared.Expected.TheVariants as at
use Rattle.yaml_emit_layout.specs.Content.{Event}
use Rattle.yaml_emit_layout.specs.Grammar.{or_else}
use Rattle.yaml_emit_layout.specs.Progress.{Due, item_due, key_due, value_due, Progress, first_refusal}
use Rattle.yaml_emit_layout.specs.State.{State, piece, next, problem_at, opens_empty}
use Rattle.yaml_emit_core.specs.Steps.{next_piece, takes_memory, is_document_start}
use Rattle.yaml_emit_machine.specs.Held.{is_ready}

-- The events of a list that are let out: all before the first one that is still held.
unfoldable pub let_out : List Event → List Event
let_out [] = []
let_out (e ∷ es) = if is_ready (e ∷ es) then e ∷ let_out es else []

-- all of these are let out, whatever follows
abbrev pub AreOut : List Event → Type 0
AreOut es = (more : List Event) → let_out (es ++ more) ≡ es ++ let_out more

-- unless there is a problem
abbrev pub unless : Option Problem → Layout → Layout
unless p a = next_piece p a

-- what is written for the events of a list, up to the first one that is refused
unfoldable pub laid : Settings → State → List Event → Layout
laid s st [] = stay
laid s st (e ∷ es) = unless (problem_at s st e) (λ c rest. piece s st e (opens_empty e es) c
    (λ d. laid s (next s st e (opens_empty e es) d) es d rest))

-- ---- after some events that were laid out

abbrev pub refused_at : Expected → Option Problem
refused_at (at.Refused p) = Some p
refused_at at.StreamStart = None
refused_at (at.Documents first unended) = None
refused_at at.Node = None
refused_at at.DocumentEnd = None
refused_at at.End = None

abbrev pub due_in : Phase → Due
due_in (Items fresh) = item_due
due_in (Keys fresh) = key_due
due_in (Value simple) = value_due

abbrev pub due_of : List Level → List Due
due_of [] = []
due_of (l ∷ ls) = due_in l.phase ∷ due_of ls

abbrev pub shape_of : State → Progress
shape_of st = record { place = st.place; due = due_of st.levels }

-- the first refusal among these; one that has come stays the first
abbrev pub refusal_among : Bool → State → List Event → Option Problem
refusal_among canonical st es = or_else (refused_at st.place)
    (first_refusal canonical (shape_of st) es)

-- what is written for them; after a refusal nothing
abbrev pub text_among : Settings → State → List Event → Layout
text_among s st es = unless (refused_at st.place) (laid s st es)

-- likewise for those that are let out
abbrev pub refusal_from : Bool → State → List Event → Option Problem
refusal_from canonical st es = refusal_among canonical st (let_out es)

abbrev pub text_from : Settings → State → List Event → Layout
text_from s st es = text_among s st (let_out es)

-- the problem of the first event that is refused, once these are given too
unfoldable pub refusal_behind : Settings → State → List Event → Option Problem
refusal_behind s st es = refusal_from s.canonical st es

-- `whole` is what is written after that output, once these events are given too
unfoldable pub LetsOut : Settings → State → Output → List Event → List Item → Type 0
LetsOut s st o es whole = Ends o (text_from s st es o.cursor nothing_more) whole

-- the first refusal among all these, whether they are let out by then or not
unfoldable pub first_wrong : Settings → State → List Event → Option Problem
first_wrong s st es = refusal_among s.canonical st es

unfoldable pub LaysAll : Settings → State → Output → List Event → List Item → Type 0
LaysAll s st o es whole = Ends o (text_among s st es o.cursor nothing_more) whole

-- laying out some of them may take memory outside the output
abbrev pub take_memory : List Event → Bool
take_memory es = list_any takes_memory es

-- ---- the first few

-- what is written for the first n events of a list, up to the first one that is refused
unfoldable pub laid_some : ℕ → Settings → State → List Event → Layout
laid_some zero s st es = stay
laid_some (suc n) s st [] = stay
laid_some (suc n) s st (e ∷ es) = unless (problem_at s st e)
    (λ c rest. piece s st e (opens_empty e es) c
    (λ d. laid_some n s (next s st e (opens_empty e es) d) es d rest))

-- the same; after a refusal nothing
abbrev pub some_among : ℕ → Settings → State → List Event → Layout
some_among n s st es = unless (refused_at st.place) (laid_some n s st es)

-- `whole` is what is written after that output when the first n of these are laid out
unfoldable pub LaysSome : ℕ → Settings → State → Output → List Event → List Item → Type 0
LaysSome n s st o es whole = Ends o (some_among n s st es o.cursor nothing_more) whole

-- the first one may take memory outside the output
abbrev pub first_takes : List Event → Bool
first_takes [] = false
first_takes (e ∷ es) = takes_memory e

-- the first one begins a document
abbrev pub first_starts : List Event → Bool
first_starts [] = false
first_starts (e ∷ es) = is_document_start e

-- the first one begins a document, whose directives are looked at before it is laid out; or it still has to be held
abbrev pub WaitsFirst : List Event → Type 0
WaitsFirst es = (first_starts es ≡ true) ⊎ (is_ready es ≡ false)

-- Memory was refused outside the output for one of these events, or for a copy of the last one that was to be held with it: all
-- before it are laid out, and it is too, or nothing of it. `laid n` says that the first n are laid out, and nothing else.
pub record RefusesHeld (es : List Event) (laid : ℕ → Type 0) : Type 0 where
  pub front : ℕ
  pub takes : first_takes (drop front es) ≡ true
  pub stands : laid (suc front) ⊎ (WaitsFirst (drop front es) × laid front)
