-- What a call gives that fills a slot which is handed in.
use Rattle.std.specs.Prelude.{◌≡◌, ℕ, Bool, true, false}
use Rattle.yaml_parse_model.specs.scan_types.Faults.{Fault}
use Rattle.yaml_parse_model.specs.Events.{Event}
use Rattle.yaml_parse_grammar.specs.Remaining.{IsFinished}
use Rattle.yaml_scan_model.specs.declared.tokens.Tokens.{Ghosts}
use Rattle.yaml_parse_states.specs.declared.parser.Parser.{Parser}
use Rattle.yaml_parse_states.specs.Coming.{ahead}
use Rattle.yaml_parse_states.specs.Views.{coming_of}
use Rattle.yaml_parse_states.specs.Remaining.{remaining_of}
use Rattle.yaml_parse_states.specs.Standing.{Stands, StandsTold}
use Rattle.yaml_parse_states.specs.Utf8.{IsUtf8Held, IsUtf8Told}

-- the event was the next one, and the rest is left
pub record GaveFront {T P : Type 0} (g : Ghosts T P) (e : Event) (old new : Parser T P) : Type 0
  where
    pub unasked : ℕ
    pub left : g.unasked new.tokens ≡ unasked
    pub next : coming_of g old ≡ ahead e unasked (coming_of g new)

-- nothing is to come
pub record GaveNone {T P : Type 0} (g : Ghosts T P) (old new : Parser T P) : Type 0 where
  pub same : new ≡ old
  pub finished : (held : T → ℕ) (n : ℕ) (a : Fault) → IsFinished (remaining_of g held old n a)

-- whether an event is in the slot
abbrev pub Fills : {T P : Type 0} → Ghosts T P → Bool → Event → Parser T P → Parser T P → Type 0
Fills g true e old new = GaveFront g e old new
Fills g false e old new = GaveNone g old new

abbrev pub StandsFilled : {T P : Type 0} → Ghosts T P → Bool → Event → Parser T P → Type 0
StandsFilled g true e new = StandsTold g e new
StandsFilled g false e new = Stands new

abbrev pub IsUtf8Filled : {T P : Type 0} → Ghosts T P → Bool → Event → Parser T P → Type 0
IsUtf8Filled g true e new = IsUtf8Told g e new
IsUtf8Filled g false e new = IsUtf8Held g new
