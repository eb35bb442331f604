-- What the constructors of events answer.
use Rattle.std.specs.Prelude.{◌≡◌, ℕ, List, [], ◌∷◌, Option, Some, None, Result, Ok, Err, IsUtf8}
use Rattle.yaml_parse_model.specs.declared.event.yaml_event_t.{yaml_event_t}
use Rattle.yaml_parse_model.specs.declared.prefix.yaml_text_fault_t.{yaml_text_fault_t}
use Rattle.yaml_parse_model.specs.declared.prefix.yaml_text_fault_t.TheVariants.{NotUtf8, Memory}
use Rattle.yaml_parse_model.specs.Events.{EventBody, TagDirective, event_of, unplaced}
use Rattle.yaml_parse_model.specs.Events as event

-- a text that may be left out is UTF-8
abbrev pub IsUtf8Option : Option (List ℕ) → Type 0
IsUtf8Option None = Unit {0}
IsUtf8Option (Some text) = IsUtf8 text

-- the texts of `%TAG` directives are UTF-8
abbrev pub AreUtf8 : List TagDirective → Type 0
AreUtf8 [] = Unit {0}
AreUtf8 (d ∷ ds) = (IsUtf8 d.handle × IsUtf8 d.prefix) × AreUtf8 ds

-- each text of an event is UTF-8
abbrev pub HasUtf8 : EventBody → Type 0
HasUtf8 (event.document_start version directives implicit) = AreUtf8 directives
HasUtf8 (event.alias anchor) = IsUtf8 anchor
HasUtf8 (event.scalar anchor tag value plain quoted style) = IsUtf8Option anchor × IsUtf8Option tag
    × IsUtf8 value
HasUtf8 (event.sequence_start anchor tag implicit style) = IsUtf8Option anchor × IsUtf8Option tag
HasUtf8 (event.mapping_start anchor tag implicit style) = IsUtf8Option anchor × IsUtf8Option tag
HasUtf8 _ = Unit {0}

-- a constructor answers the event with zero marks; that a text isn't UTF-8, exactly where one isn't; else out of memory
abbrev pub Constructs : EventBody → Result yaml_event_t yaml_text_fault_t → Type 0
Constructs body (Ok e) = (event_of e ≡ unplaced body) × HasUtf8 body
Constructs body (Err NotUtf8) = ¬ HasUtf8 body
Constructs body (Err Memory) = HasUtf8 body
