-- What is read of an input, and what a reader of its events is given.
use Rattle.std.specs.Prelude.{◌≡◌, ◌⊎◌, Bool, true, false, List, [], ◌∷◌, Option, Some, None, Result, Ok, Err}
use Rattle.yaml_parse.specs.declared.yaml_fault_t.{yaml_fault_t}
use Rattle.yaml_parse.specs.scan_types.Faults.{Fault, fault_of, IsMemoryFault, parse_layers}
use Rattle.yaml_parse.specs.declared.yaml_found_t.{yaml_found_t}
use Rattle.yaml_parse.specs.declared.yaml_found_t.TheVariants as found
use Rattle.yaml_parse.specs.Events.{Event, EventBody}
use Rattle.yaml_parse.specs.Events as event
use Rattle.yaml_parse.specs.Constructors.{HasUtf8}
use Rattle.yaml_parse.specs.Resolve.{Told}
use Rattle.yaml_parse.specs.Remaining.{ParserRemaining}
pub use Rattle.yaml_round_content.specs.Events.{emitter_events, contents}

-- ---- events

-- the empty event, which is after the last one
abbrev pub is_empty : EventBody → Bool
is_empty event.no = true
is_empty body = false

-- none of the events is empty
abbrev pub AreReal : List Told → Type 0
AreReal [] = Unit {0}
AreReal (t ∷ ts) = (is_empty t.0.body ≡ false) × AreReal ts

-- ---- a parser that is read

-- the front of what is to come was given, and the rest is left; its texts are UTF-8
pub record GivesNextEvent (e : Event) (old new : ParserRemaining) : Type 0 where
  pub events : old.events ≡ (e, new.unasked) ∷ new.events
  pub ending : new.ending ≡ old.ending
  pub real : AreReal new.events
  pub utf8 : HasUtf8 e.body

-- nothing is to come
pub record HasNothingToCome (c : ParserRemaining) : Type 0 where
  pub events : c.events ≡ []
  pub ending : c.ending ≡ None

-- the fault is the one that ends the reading, or out of memory
abbrev pub IsFaultOf : Option Fault → Fault → Type 0
IsFaultOf ending f = IsMemoryFault parse_layers f ⊎ (ending ≡ Some f)

-- the next event, the fault, or the end
abbrev pub FindsNextEvent : ParserRemaining → yaml_found_t → Event → Fault → ParserRemaining
    → Type 0
FindsNextEvent old found.Event e f new = GivesNextEvent e old new
FindsNextEvent old found.Refused e f new = IsFaultOf old.ending f
FindsNextEvent old found.End e f new = HasNothingToCome old × HasNothingToCome new

-- the whole reading has no fault, or the answer is its fault
abbrev pub EndsWith : Option Fault → Result (Unit {0}) yaml_fault_t → Type 0
EndsWith ending (Ok done) = ending ≡ None
EndsWith ending (Err f) = IsFaultOf ending (fault_of f)
