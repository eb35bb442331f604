-- What becomes of the events that an emitter is given.
use Rattle.std.specs.Prelude.{◌≡◌, ◌≢◌, ℕ, ◌≤◌, Bool, true, false, List, [], ◌∷◌, ◌++◌, length, None}
use Rattle.yaml_emit_layout.specs.declared.Encoding.{Encoding}
use Rattle.yaml_emit_layout.specs.declared.Status.TheVariants.{Going}
use Rattle.yaml_emit_layout.specs.Text.{Item, encode}
use Rattle.yaml_emit_layout.specs.Sink.{Grows}
use Rattle.yaml_emit_layout.specs.Content.{Event}
use Rattle.yaml_emit_core.specs.Steps.{may_note}
use Rattle.yaml_emit_machine.specs.Held.{AreLast, IsWaiting}
use Rattle.yaml_emit_machine.specs.Judged.{take_memory, RefusesHeld}
use Rattle.yaml_emit_machine.specs.Emitter.{Emitter, Completes, Keeps}
use Rattle.yaml_emit_machine.specs.Verdict.{verdict, Writes, wrong, Lays, LaysFirst}

-- Of the events `es` that were to come those of `left` are still to come, and the others were taken. Whatever follows, they count:
-- the whole text is the same, the same event is refused, unless the output has stopped, and the same is written, both of those that
-- are let out and of all. What was in the output is there still.
pub record TakesEvents (old : Emitter) (es : List Event) (new : Emitter)
    (left : List Event) : Type 0 where
  pub completes : (x : Encoding) (more : List Event) (whole : List Item)
      → Completes old x (es ++ more) whole → Completes new x (left ++ more) whole
  pub refuses : new.status ≡ Going → (more : List Event)
      → verdict new (left ++ more) ≡ verdict old (es ++ more)
  pub writes : (x : Encoding) (more : List Event) (whole : List Item)
      → Writes old x (es ++ more) whole → Writes new x (left ++ more) whole
  pub first : new.status ≡ Going → (more : List Event)
      → wrong new (left ++ more) ≡ wrong old (es ++ more)
  pub lays : (x : Encoding) (more : List Event) (whole : List Item)
      → Lays old x (es ++ more) whole → Lays new x (left ++ more) whole
  pub grows : Grows old.output new.output
  -- an output that has stopped stays stopped
  pub going : new.status ≡ Going → old.status ≡ Going
  pub requested_settings : new.requested_settings ≡ old.requested_settings
  pub limit : new.limit ≡ old.limit
  -- one that is still fresh has taken nothing
  pub begun : new.fresh ≡ true → (old.fresh ≡ true) × (left ≡ es)

-- What is given after a refusal counts for nothing: with any events to come it is the same as with any others.
abbrev pub Stuck : Emitter → Type 0
Stuck e = (es left : List Event) → TakesEvents e es e left

-- Between these two, that memory was refused outside the output is noted where this stops the output, and nowhere else; by
-- whether what was laid out may take such memory.
abbrev pub NotesMemory : Bool → Emitter → Emitter → Type 0
NotesMemory takes old new = may_note takes old.status new.status ≡ false
    → new.starved ≡ old.starved

-- the notes of memory for an event that was given: those that were held, or it, may take such
-- memory
abbrev pub NotesMemoryOf : Event → Emitter → Emitter → Type 0
NotesMemoryOf e old new = NotesMemory (take_memory (old.held ++ e ∷ [])) old new

-- the output is what is written when the first n of the held events and of these are let out, whatever follows them
abbrev pub HasFirst : Emitter → List Event → List ℕ → ℕ → Type 0
HasFirst old es output n = (x : Encoding) (more : List Event) (whole : List Item)
    → LaysFirst n old x (es ++ more) whole → encode x whole ≡ output

-- Where it is noted, the text needed no memory: the output ends where the text of an event does that opens a collection or a
-- document, or before a document's start, or before the first event that is held.
abbrev pub BlamesLevels : Event → Emitter → Emitter → Type 0
BlamesLevels e old new = old.starved ≡ false → new.starved ≡ true
    → RefusesHeld (old.held ++ e ∷ []) (HasFirst old (e ∷ []) new.output)

-- What is said of an event that was given: at most three are held, and the stream is open, or closed, as it was.
pub record TakesOne (old : Emitter) (e : Event) (new : Emitter) : Type 0 where
  pub takes : TakesEvents old (e ∷ []) new []
  pub memory : NotesMemoryOf e old new
  pub blames : BlamesLevels e old new
  pub few : length new.held ≤ 3
  pub opened : Keeps old new
  pub begun : new.fresh ≡ false
  -- what is held are the last that were given
  pub last : AreLast (old.held ++ e ∷ []) new.held

-- An event was taken, and laid out unless it has to wait for the next one, and so was what was held before. Whatever follows, they
-- count: the whole text is the same, the same event is the first that is wrong, unless the output has stopped, and the same is written
-- of all. What was in the output is there still.
pub record TakesSoon (old : Emitter) (e : Event) (new : Emitter) : Type 0 where
  pub completes : (x : Encoding) (more : List Event) (whole : List Item)
      → Completes old x (e ∷ more) whole → Completes new x more whole
  pub first : new.status ≡ Going → (more : List Event) → wrong new more ≡ wrong old (e ∷ more)
  pub lays : (x : Encoding) (more : List Event) (whole : List Item)
      → Lays old x (e ∷ more) whole → Lays new x more whole
  pub grows : Grows old.output new.output
  pub going : new.status ≡ Going → old.status ≡ Going
  pub requested_settings : new.requested_settings ≡ old.requested_settings
  pub limit : new.limit ≡ old.limit
  pub memory : NotesMemoryOf e old new
  pub blames : BlamesLevels e old new
  pub opened : Keeps old new
  pub begun : new.fresh ≡ false
  -- in canonical form nothing is held, and else at most the start of a collection, until the next event
  pub waits : old.fault ≡ None → IsWaiting old.requested_settings.canonical e new.held
  -- nor is anything once a fault has come
  pub stopped : old.fault ≡ None → new.fault ≢ None → new.held ≡ []

-- The settings came into force before the first event, which is still to come.
pub record ComesIntoForce (old : Emitter) (e : Event) (new : Emitter) : Type 0 where
  pub takes : TakesEvents old (e ∷ []) new (e ∷ [])
  pub begun : new.fresh ≡ false
  pub fault : new.fault ≡ None
  pub status : new.status ≡ old.status
  pub held : new.held ≡ old.held
  pub starved : new.starved ≡ old.starved
  pub front : (n : ℕ) (x : Encoding) (more : List Event) (whole : List Item)
      → LaysFirst n old x (e ∷ more) whole → LaysFirst n new x (e ∷ more) whole
  pub keeps : Keeps old new
