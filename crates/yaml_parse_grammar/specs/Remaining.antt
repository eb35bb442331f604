-- What is still to come of a parser, and what its calls give.
use Rattle.std.specs.Prelude.{◌≡◌, ◌⊎◌, ◌≤◌, ℕ, Bool, true, false, List, [], ◌∷◌, Option, Some, None}
use Rattle.yaml_parse_model.specs.scan_types.Tokens.{Token}
use Rattle.yaml_parse_model.specs.scan_types.Faults.{Fault, IsMemoryFault, parse_layers, scan_layers}
use Rattle.yaml_parse_model.specs.Source.{HasMore}
use Rattle.yaml_parse_model.specs.Events.{Event, no_event}
use Rattle.yaml_parse_grammar.specs.States.{State}
use Rattle.yaml_parse_grammar.specs.States as state
use Rattle.yaml_parse_grammar.specs.Machine.{run, unasked_at_stop, Outcome}
use Rattle.yaml_parse_grammar.specs.Resolve.{Directives, Reading, Told, reading, unasked_at_fault}

abbrev pub waiting : Option Token → List Token → List Token
waiting None ts = ts
waiting (Some t) ts = t ∷ ts

-- no document is half taken
abbrev pub is_between : List State → Bool
is_between [] = true
is_between (state.stream ∷ s) = true
is_between (state.first ∷ s) = true
is_between (state.documents ∷ s) = true
is_between _ = false

-- The events to come and the fault that ends them, how many tokens are not asked for as that fault is reported, the tokens that
-- are not asked for, how many are asked for and not consumed, whether no document is half taken, and the fault that was
-- answered.
pub record ParserRemaining : Type 0 where
  pub events : List Told
  pub ending : Option Fault
  pub ending_unasked : ℕ
  pub unasked : ℕ
  pub held : ℕ
  pub between : Bool
  pub answered : Fault

abbrev pub reading_of : Outcome → Directives → Reading
reading_of o ds = reading o.items o.ending ds

-- how many tokens are not asked for as the fault is reported
abbrev pub unasked_of : List Token → Option Fault → List State → Directives → ℕ
unasked_of ts f s ds = unasked_at_fault (run ts s f).items (unasked_at_stop ts s) ds

-- nothing is to come
pub record IsFinished (c : ParserRemaining) : Type 0 where
  pub events : c.events ≡ []
  pub ending : c.ending ≡ None
  pub between : c.between ≡ true

-- the call gives the front of what is to come, and leaves the rest
pub record Gives (e : Event) (told : Told) (rest : List Told) (f : Option Fault)
    (old new : ParserRemaining) : Type 0 where
  pub given : e ≡ told.0
  pub events : new.events ≡ rest
  pub ending : new.ending ≡ f
  pub ending_unasked : new.ending_unasked ≡ old.ending_unasked
  pub unasked : new.unasked ≡ told.1
  pub answered : new.answered ≡ old.answered

-- after the end the empty event is given, and no token is asked for
pub record GivesNothing (e : Event) (old new : ParserRemaining) : Type 0 where
  pub given : e ≡ no_event
  pub finished : IsFinished new
  pub unasked : new.unasked ≡ old.unasked
  pub held : new.held ≡ old.held
  pub answered : new.answered ≡ old.answered

abbrev pub GivesEvent : List Told → Option Fault → Event → ParserRemaining → ParserRemaining
    → Type 0
GivesEvent (g ∷ gs) f e old new = Gives e g gs f old new
GivesEvent [] None e old new = GivesNothing e old new
GivesEvent [] (Some f) e old new = ⊥

abbrev pub EventOf : ParserRemaining → Event → ParserRemaining → Type 0
EventOf old e new = GivesEvent old.events old.ending e old new

-- how many tokens are not asked for as the next event is given, or where none is to come, as the fault is reported
abbrev pub next_unasked : List Told → ℕ → ℕ
next_unasked [] behind = behind
next_unasked (g ∷ gs) behind = g.1

-- A fault is answered: the one that is to come, or out of memory, the source's or the parser's. Something was to come, so it is
-- neither after the end nor after a fault; nothing comes after it.
pub record FaultOf (old : ParserRemaining) (f : Fault) (new : ParserRemaining) : Type 0 where
  pub more : HasMore old.events old.ending
  pub finished : IsFinished new
  pub answered : new.answered ≡ f
  pub reason : IsMemoryFault parse_layers f ⊎ ((old.events ≡ []) × (old.ending ≡ Some f))
  -- with that many tokens asked for
  pub unasked : IsMemoryFault parse_layers f ⊎ (new.unasked ≡ old.ending_unasked)
  -- None was asked for after the place of what was to come; where the source lacks memory, none of its tokens is left.
  pub asked : IsMemoryFault scan_layers f
      ⊎ (next_unasked old.events old.ending_unasked ≤ new.unasked)
