-- The events that are held.
use Rattle.std.specs.Prelude.{◌≡◌, ◌⊎◌, ℕ, Bool, true, false, not, ◌&&◌, ◌||◌, nat_le, List, [], ◌∷◌, ◌++◌, length, map, All}
use Rattle.yaml_parse_model.specs.Events.{EventBody, body_of}
use Rattle.yaml_parse_model.specs.Constructors.{HasUtf8}
use Rattle.yaml_emit_layout.specs.Content.{Event, no_event, stream_start, stream_end, document_start, document_end, alias, scalar, sequence_start, sequence_end, mapping_start, mapping_end, emitter_event}
use Rattle.yaml_emit_core.specs.Steps.{opens}
use Rattle.yaml_emit_machine.specs.declared.held.Held.{Held}
use Rattle.yaml_emit_machine.specs.declared.held.Count.{Count}
use Rattle.yaml_emit_machine.specs.declared.held.Count.TheVariants.{Nothing, One, Two, Three}

-- those after the oldest one, of that many in all
abbrev pub back : Count → EventBody → EventBody → List EventBody
back Nothing b c = []
back One b c = []
back Two b c = b ∷ []
back Three b c = b ∷ c ∷ []

-- the oldest one and those after it, where any is held
abbrev pub all_held : Count → EventBody → List EventBody → List EventBody
all_held Nothing a bs = []
all_held One a bs = a ∷ bs
all_held Two a bs = a ∷ bs
all_held Three a bs = a ∷ bs

abbrev pub later_bodies : Held → List EventBody
later_bodies h = back h.count (body_of h.second) (body_of h.third)

-- the oldest first
abbrev pub held_bodies : Held → List EventBody
held_bodies h = all_held h.count (body_of h.first) (later_bodies h)

abbrev pub held_events : Held → List Event
held_events h = map emitter_event (held_bodies h)

-- the event in the oldest's slot
abbrev pub oldest_event : Held → Event
oldest_event h = emitter_event (body_of h.first)

-- those after the oldest
abbrev pub later_events : Held → List Event
later_events h = map emitter_event (later_bodies h)

-- their texts are UTF-8
abbrev pub HeldUtf8 : Held → Type 0
HeldUtf8 h = All HasUtf8 (held_bodies h)

-- it opens a level
abbrev pub opens_level : Event → Bool
opens_level (stream_start x) = true
opens_level (document_start o) = true
opens_level (sequence_start p) = true
opens_level (mapping_start p) = true
opens_level e = false

-- it ends one
abbrev pub ends_level : Event → Bool
ends_level stream_end = true
ends_level (document_end implicit) = true
ends_level sequence_end = true
ends_level mapping_end = true
ends_level e = false

-- a level is ended before another is opened
abbrev pub closes : List Event → Bool
closes [] = false
closes (e ∷ es) = ends_level e || (not (opens_level e) && closes es)

-- how many events an event needs after it
abbrev pub needs : Event → ℕ
needs (document_start o) = 1
needs (sequence_start p) = 2
needs (mapping_start p) = 3
needs no_event = 0
needs (stream_start x) = 0
needs stream_end = 0
needs (document_end implicit) = 0
needs (alias name) = 0
needs (scalar x) = 0
needs sequence_end = 0
needs mapping_end = 0

abbrev pub has_enough : Event → List Event → Bool
has_enough e es = nat_le (needs e) (length es) || closes es

-- An event is held until 1 follows what opens a document, 2 what opens a sequence, 3 what opens a mapping, or its level is ended.
unfoldable pub is_ready : List Event → Bool
is_ready [] = false
is_ready (e ∷ es) = has_enough e es

-- nothing is held, and the event needs nothing after it
abbrev pub passes : List Event → Event → Bool
passes [] e = is_ready (e ∷ [])
passes (f ∷ fs) e = false

abbrev pub are_some : List Event → Bool
are_some [] = false
are_some (e ∷ es) = true

-- what is held are the last of these
abbrev pub AreLast : List Event → List Event → Type 0
AreLast all last = (front : List Event) × (all ≡ front ++ last)

-- some are held, and the oldest has what it needs, with this event after them
abbrev pub releases : List Event → Event → Bool
releases [] e = false
releases (f ∷ fs) e = is_ready (f ∷ fs ++ e ∷ [])

-- an event may have to wait for the next one: it opens a collection, and the form, which isn't canonical, may ask whether that is empty
abbrev pub asks_next : Bool → Event → Bool
asks_next canonical e = not canonical && opens e

-- where events are laid out as they come, nothing is held, or the last event alone, which may have to wait for the next one
abbrev pub IsWaiting : Bool → Event → List Event → Type 0
IsWaiting canonical e held = (held ≡ []) ⊎ ((held ≡ e ∷ []) × (asks_next canonical e ≡ true))
