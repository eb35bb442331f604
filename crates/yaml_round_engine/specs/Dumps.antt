-- How the dumps of documents compare, event by event.
use Rattle.std.specs.Prelude.{◌≡◌, ◌<◌, ℕ, suc, ◌+◌, Bool, true, false, List, [], ◌∷◌, ◌++◌, length, map, Option, Result, Ok, Err}
use Rattle.std.specs.declared.alloc.AllocError.{AllocError}
use Rattle.yaml_parse.specs.declared.yaml_encoding_t.{yaml_encoding_t}
use Rattle.yaml_parse.specs.declared.yaml_fault_t.{yaml_fault_t}
use Rattle.yaml_scan_types.specs.Faults.{Fault, fault_of}
use Rattle.yaml_scan_model.specs.declared.name.yaml_encoding_t.TheVariants.{YAML_ANY_ENCODING}
use Rattle.yaml_scan_model.specs.declared.name.yaml_scalar_style_t.TheVariants.{YAML_ANY_SCALAR_STYLE}
use Rattle.yaml_scan_model.specs.declared.name.yaml_sequence_style_t.TheVariants.{YAML_ANY_SEQUENCE_STYLE}
use Rattle.yaml_scan_model.specs.declared.name.yaml_mapping_style_t.TheVariants.{YAML_ANY_MAPPING_STYLE}
use Rattle.yaml_parse.specs.Events.{Event, EventBody, type_of}
use Rattle.yaml_parse.specs.Events as event
use Rattle.yaml_parse.specs.Documents.{Document}
use Rattle.yaml_parse.specs.Resolve.{Told}
use Rattle.yaml_emit_graph.specs.emit_layout.Content as emit
use Rattle.yaml_emit_graph.specs.Graph.{graph_content}
use Rattle.yaml_emit_graph.specs.Events.{remaining_events, given_event, IsEvents}
use Rattle.yaml_round_content.specs.Input.{events_of, ending_of}
use Rattle.yaml_round_content.specs.Content.{counts_as_plain}
use Rattle.yaml_round_content.specs.Said.{node_says, documents_say}
use Rattle.yaml_round_content.specs.Trees.{document_tree}
use Rattle.yaml_round_content.specs.DumpsEvents.{trees_of_dumps}
use Rattle.yaml_round_reading.specs.declared.side.yaml_side_t.{yaml_side_t}
use Rattle.yaml_round_reading.specs.declared.side.yaml_side_t.TheVariants.{First, Second}
use Rattle.yaml_round_reading.specs.Reading.{IsFaultOf}
use Rattle.yaml_round_engine.specs.declared.difference.yaml_difference_t.{yaml_difference_t}
use Rattle.yaml_round_engine.specs.declared.documents.Turn.{Turn}
use Rattle.yaml_round_engine.specs.declared.documents.Turn.TheVariants.{Same, End, Different}
use Rattle.yaml_round_engine.specs.declared.dump.Dump.{Dump}
use Rattle.yaml_round_engine.specs.declared.front.Front.{Front}
use Rattle.yaml_round_engine.specs.declared.cause.yaml_cause_t.{yaml_cause_t}
use Rattle.yaml_round_engine.specs.declared.seen.Seen.{Seen}
use Rattle.yaml_round_engine.specs.Causes.{next_cause}
use Rattle.yaml_round_engine.specs.Places.{path_of}
use Rattle.yaml_round_engine.specs.Walking.{past, past_event, start}
use Rattle.yaml_round_engine.specs.Differences.{TellsOf}
use Rattle.yaml_round_engine.specs.Loaded.{next_of, event_at}

-- ---- what dumps say

-- what an emitter's event says, styles and document marks aside
abbrev pub said : emit.Event → EventBody
said emit.no_event = event.no
said (emit.stream_start encoding) = event.stream_start YAML_ANY_ENCODING
said emit.stream_end = event.stream_end
said (emit.document_start o) = event.document_start o.version o.directives true
said (emit.document_end implicit) = event.document_end true
said (emit.alias name) = event.alias name
said (emit.scalar x) = event.scalar x.anchor x.tag x.value (counts_as_plain x.tag x.plain) false
    YAML_ANY_SCALAR_STYLE
said (emit.sequence_start q) = event.sequence_start q.anchor q.tag true YAML_ANY_SEQUENCE_STYLE
said emit.sequence_end = event.sequence_end
said (emit.mapping_start q) = event.mapping_start q.anchor q.tag true YAML_ANY_MAPPING_STYLE
said emit.mapping_end = event.mapping_end

-- the events of one document
abbrev pub document_says : Document → List EventBody
document_says d = event.document_start d.version d.directives true
    ∷ node_says (document_tree (graph_content d)).root (event.document_end true ∷ [])

-- of those that are left, and the stream's end
abbrev pub documents_left : List Document → List EventBody
documents_left ds = documents_say (trees_of_dumps ds)

-- ---- one dump

abbrev pub IsDump : Dump → Type 0
IsDump d = IsEvents d.events

abbrev pub AreDumps : Dump → Dump → Type 0
AreDumps first second = IsDump first × IsDump second

-- what of it is to come
abbrev pub dump_left : Dump → List EventBody
dump_left d = map said (remaining_events d.document d.events)

-- what the event says that was given last
abbrev pub given : Dump → EventBody
given d = said (given_event d.document d.events)

-- the next event was given
pub record GivesDumpEvent (old new : Dump) : Type 0 where
  pub events : dump_left old ≡ given new ∷ dump_left new
  pub dump : IsDump new

abbrev pub GivesDumped : Dump → Result Bool AllocError → Dump → Type 0
GivesDumped old (Ok true) new = GivesDumpEvent old new
GivesDumped old (Ok false) new = dump_left old ≡ []
GivesDumped old (Err e) new = Unit {0}

-- ---- two dumps

-- both give an event that has the same content
pub record BothGive (first second first_new second_new : Dump) : Type 0 where
  pub first_events : dump_left first ≡ given first_new ∷ dump_left first_new
  pub second_events : dump_left second ≡ given first_new ∷ dump_left second_new
  pub dumps : AreDumps first_new second_new
  pub less : length (dump_left first_new) < length (dump_left first)

-- the next events aren't the same, and differ in that
pub record DifferNextIn (c : yaml_cause_t) (first second : Option EventBody) : Type 0 where
  pub differ : first ≡ second → ⊥
  pub cause : c ≡ next_cause first second

abbrev pub TurnsOn : Dump → Dump → Result Turn AllocError → Dump → Dump → Type 0
TurnsOn first second (Ok Same) first_new second_new = BothGive first second first_new second_new
TurnsOn first second (Ok End) first_new second_new = (dump_left first ≡ [])
    × (dump_left second ≡ [])
TurnsOn first second (Ok (Different c)) first_new second_new = DifferNextIn c
    (next_of (dump_left first)) (next_of (dump_left second))
TurnsOn first second (Err e) first_new second_new = Unit {0}

-- ---- what is before the place

-- after the streams' start
pub record IsStarted (f : Front) : Type 0 where
  pub path : path_of f.trail.place ≡ start
  pub events : f.events ≡ 1

-- one event more
pub record PassesEvent (e : EventBody) (old new : Front) : Type 0 where
  pub path : path_of new.trail.place ≡ past_event e (path_of old.trail.place)
  pub events : new.events ≡ suc old.events

-- nothing was passed, and it says that cause
pub record EndsFront (c : yaml_cause_t) (old new : Front) : Type 0 where
  pub path : path_of new.trail.place ≡ path_of old.trail.place
  pub events : new.events ≡ old.events
  pub cause : new.trail.place.cause ≡ c

-- both begin with the same events, which were passed, and that is left
pub record GoesPast (first second first_left second_left : List EventBody) (old new : Front)
    : Type 0 where
  pub before : List EventBody
  pub first_events : first ≡ before ++ first_left
  pub second_events : second ≡ before ++ second_left
  pub path : path_of new.trail.place ≡ past before (path_of old.trail.place)
  pub events : new.events ≡ old.events + length before

-- and then not; it says in what these differ
pub record PartsBehind (first second : List EventBody) (old new : Front) : Type 0 where
  pub left : List EventBody
  pub other_left : List EventBody
  pub past : GoesPast first second left other_left old new
  pub next : DifferNextIn new.trail.place.cause (next_of left) (next_of other_left)

abbrev pub Compares : List EventBody → List EventBody → Front → Result Bool AllocError → Front
    → Type 0
Compares first second old (Ok true) new = GoesPast first second [] [] old new
Compares first second old (Ok false) new = PartsBehind first second old new
Compares first second old (Err e) new = Unit {0}

abbrev pub ComparesAll : List EventBody → List EventBody → Front → Result Bool AllocError → Front
    → Type 0
ComparesAll first second old (Ok true) new = first ≡ second
ComparesAll first second old (Ok false) new = PartsBehind first second old new
ComparesAll first second old (Err e) new = Unit {0}

-- ---- the inputs' events

-- where the event of that number begins and ends, and what it is; or the fault of the reading
pub record IsSeen (found : Seen) (e : Event) : Type 0 where
  pub start : found.start ≡ e.start_mark
  pub end : found.end ≡ e.end_mark
  pub kind : found.kind ≡ type_of e.body

abbrev pub FindsEvent : ℕ → List Told → Option Fault → Result Seen yaml_fault_t → Type 0
FindsEvent n events ending (Ok found) = IsSeen found (event_at events n)
FindsEvent n events ending (Err f) = IsFaultOf ending (fault_of f)

-- it says of both inputs' events after the front, in what the dumps differ, and the path after the front
pub record TellsBehind (first second : Event) (front : Front) (d : yaml_difference_t) : Type 0 where
  pub tells : TellsOf first second d
  pub path : path_of d ≡ path_of front.trail.place
  pub cause : d.cause ≡ front.trail.place.cause

-- what the difference says of the inputs' events; or the fault of a reading
abbrev pub TellsOfInputs : yaml_encoding_t → List ℕ → yaml_encoding_t → List ℕ → Front
    → Result yaml_difference_t (yaml_side_t × yaml_fault_t) → Type 0
TellsOfInputs a_from a b_from b front (Ok d) = TellsBehind
    (event_at (events_of a_from a) front.events) (event_at (events_of b_from b) front.events)
    front d
TellsOfInputs a_from a b_from b front (Err (First, f)) = IsFaultOf (ending_of a_from a)
    (fault_of f)
TellsOfInputs a_from a b_from b front (Err (Second, f)) = IsFaultOf (ending_of b_from b)
    (fault_of f)
