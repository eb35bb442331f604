-- How far a dump has opened the stream.
use Rattle.std.specs.Prelude.{◌≡◌, ◌<◌, Bool, true, false, List, [], ◌∷◌, ◌++◌, length, None}
use Rattle.yaml_scan_model.specs.declared.name.yaml_encoding_t.TheVariants.{YAML_ANY_ENCODING}
use Rattle.yaml_emit_layout.specs.declared.Encoding.{Encoding}
use Rattle.yaml_emit_layout.specs.declared.Status.TheVariants.{Going}
use Rattle.yaml_emit_layout.specs.Sink.{Grows}
use Rattle.yaml_emit_layout.specs.Text.{Item}
use Rattle.yaml_parse_model.specs.Documents.{Document}
use Rattle.yaml_emit_layout.specs.Content.{Event, stream_start}
use Rattle.yaml_emit_graph.specs.declared.graph.Events.{Events}
use Rattle.yaml_emit_graph.specs.Events.{IsEvents, remaining_events}
use Rattle.yaml_emit_machine.specs.Emitter.{Emitter, Completes, Keeps, left_if}
use Rattle.yaml_emit_machine.specs.Within.{Fits}
use Rattle.yaml_emit_machine.specs.Verdict.{verdict, Writes, wrong, Lays}
use Rattle.yaml_emit_machine.specs.Taking.{TakesEvents, NotesMemory, NotesMemoryOf}

-- An event is right after what was given: no event is refused that is let out with it, and what is written then passes no limit.
pub record IsRightNext (e : Emitter) (event : Event) : Type 0 where
  pub refused : verdict e (event ∷ []) ≡ None
  pub within : (x : Encoding) (whole : List Item) → Writes e x (event ∷ []) whole
      → Fits e.limit x whole

-- the start of a stream that a dump opens
abbrev pub opening_event : Event
opening_event = stream_start YAML_ANY_ENCODING

-- How far a dump has opened the stream, a refused one too. One that was open stays so; one that wasn't is open exactly where its
-- start was right: where it isn't, the start was taken, and nothing else.
pub record OpensStream (old new : Emitter) : Type 0 where
  pub kept : old.opened ≡ true → new.opened ≡ true
  pub right : old.opened ≡ false → new.opened ≡ true → IsRightNext old opening_event
  pub alone : old.fault ≡ None → new.opened ≡ false → TakesEvents old (opening_event ∷ []) new []
  pub memory : old.fault ≡ None → new.opened ≡ false → NotesMemoryOf opening_event old new

-- Of the events of a dump that were to come those of `left` are still to come, and the others were taken.
pub record Dumps (old : Emitter) (es : List Event) (new : Emitter) (left : List Event) : Type 0
  where
    pub takes : TakesEvents old es new left
    pub memory : NotesMemory true old new
    pub keeps : Keeps old new

-- The same of a dump that is under way, whose events are laid out as they come: nothing is said of those that are let out.
pub record LaysDump (old : Emitter) (es : List Event) (new : Emitter) (left : List Event) : Type 0
  where
    pub completes : (x : Encoding) (more : List Event) (whole : List Item)
        → Completes old x (es ++ more) whole → Completes new x (left ++ more) whole
    pub first : new.status ≡ Going → (more : List Event)
        → wrong new (left ++ more) ≡ wrong old (es ++ more)
    pub lays : (x : Encoding) (more : List Event) (whole : List Item)
        → Lays old x (es ++ more) whole → Lays new x (left ++ more) whole
    pub grows : Grows old.output new.output
    pub going : new.status ≡ Going → old.status ≡ Going
    pub requested_settings : new.requested_settings ≡ old.requested_settings
    pub limit : new.limit ≡ old.limit
    pub begun : old.fresh ≡ false → new.fresh ≡ false
    pub memory : NotesMemory true old new
    pub keeps : Keeps old new

-- A dump may take the events that a walk over a document has left. Nothing is held once none is left.
pub record MayDump (d : Document) (e : Emitter) (events : Events) : Type 0 where
  pub walk : IsEvents events
  pub begun : e.fresh ≡ false
  pub right : e.fault ≡ None
  pub none : remaining_events d events ≡ [] → e.held ≡ []

-- Some of them were taken: while no fault has come, fewer are still to come, which may be taken too, and else none is, nor held.
pub record DumpsSome (d : Document) (old new : Emitter) (before after : Events)
    (going : Bool) : Type 0 where
  pub dumps : LaysDump old (remaining_events d before) new
      (left_if going (remaining_events d after))
  pub on : going ≡ true → MayDump d new after
  pub less : going ≡ true → length (remaining_events d after) < length (remaining_events d before)
  pub none : going ≡ false → new.status ≡ Going → new.held ≡ []
