-- What a call that fills borrowed slots gives.
use Rattle.std.specs.Prelude.{◌≡◌, ◌≤◌, ℕ, Bool, [], ◌∷◌, None}
use Rattle.yaml_scan_model.specs.scan_types.Faults.{Fault}
use Rattle.yaml_parse_model.specs.Events.{Event, no_event}
use Rattle.yaml_parse_model.specs.Constructors.{HasUtf8}
use Rattle.yaml_parse_grammar.specs.Remaining.{ParserRemaining, GivesNothing, FaultOf}
use Rattle.yaml_parse_grammar.specs.Stacks.{parts_documents_behind}
use Rattle.yaml_parse.specs.declared.found.yaml_found_t.{yaml_found_t}
use Rattle.yaml_parse.specs.declared.found.yaml_found_t.TheVariants as found

-- the front of what is to come is given, and the rest is left
pub record GivesNext (e : Event) (old new : ParserRemaining) : Type 0 where
  pub events : old.events ≡ (e, new.unasked) ∷ new.events
  pub ending : new.ending ≡ old.ending
  pub ending_unasked : new.ending_unasked ≡ old.ending_unasked
  pub answered : new.answered ≡ old.answered

-- nothing is to come, and no token is asked for
pub record GivesEnd (old new : ParserRemaining) : Type 0 where
  pub events : old.events ≡ []
  pub ending : old.ending ≡ None
  pub nothing : GivesNothing no_event old new

-- what a call finds: the next event or a fault, which is in its slot, or the end
abbrev pub Finds : ParserRemaining → yaml_found_t → Event → Fault → ParserRemaining → Type 0
Finds old found.Event e f new = GivesNext e old new
Finds old found.Refused e f new = FaultOf old f new
Finds old found.End e f new = GivesEnd old new

abbrev pub IsUtf8Found : yaml_found_t → Event → Type 0
IsUtf8Found found.Event e = HasUtf8 e.body
IsUtf8Found _ e = Unit {0}

abbrev pub IsStackFound : yaml_found_t → Event → Bool → Type 0
IsStackFound found.Event e between = between ≡ parts_documents_behind e.body
IsStackFound _ e between = Unit {0}

-- no more tokens are held than such tokens hold at most
abbrev pub IsHeldBy : {T : Type 0} → (T → ℕ) → ℕ → Type 0
IsHeldBy held n = (most : ℕ) → ((ts : _) → held ts ≤ most) → n ≤ most
