-- What an emitter's output ends as, with the events that follow, and its faults.
--
-- Two things are said of an emitter by the events that are still to come, and of a call by what becomes of these.
-- `Completes` is about the end of a stream: these are all the events to come, nothing is wrong in them, and this is the whole
-- text.
-- `verdict` and `Writes` (`Verdict.antt`) are about any events, right or not, and not about an end: once these are given too, this
-- event is the first that is rejected, and this is the text up to it. `wrong` and `Lays` say this of all events, those that are
-- held too.
-- `TakesEvents` (`Taking.antt`) says of a call, by both, which of the events that were to come it took.
use Rattle.std.specs.Prelude.{◌≡◌, ◌⊎◌, ℕ, ◌<◌, Bool, true, false, List, [], ◌∷◌, ◌++◌, length, take, Option, Some, None, option_map, pos, codes, Result, Ok, Err}
use Rattle.yaml_scan_model.specs.declared.name.yaml_encoding_t.{yaml_encoding_t}
use Rattle.yaml_scan_model.specs.declared.name.yaml_encoding_t.TheVariants.{YAML_ANY_ENCODING}
use Rattle.yaml_scan_model.specs.declared.name.yaml_break_t.TheVariants.{YAML_ANY_BREAK}
use Rattle.yaml_scan_model.specs.declared.fault.yaml_fault_t.{yaml_fault_t}
use Rattle.yaml_scan_model.specs.declared.name.yaml_error_type_t.{yaml_error_type_t}
use Rattle.yaml_scan_model.specs.declared.name.yaml_error_type_t.TheVariants.{YAML_EMITTER_ERROR, YAML_WRITER_ERROR}
use Rattle.yaml_scan_model.specs.declared.fault.yaml_origin_t.{yaml_origin_t}
use Rattle.yaml_scan_model.specs.declared.fault.yaml_origin_t.TheVariants as origin
use Rattle.yaml_scan_model.specs.scan_types.Widths.{default_width}
use Rattle.yaml_scan_model.specs.scan_types.Indents.{default_indent}
use Rattle.yaml_scan_model.specs.scan_types.Tokens.{zero_mark}
use Rattle.yaml_scan_model.specs.scan_types.Faults.{Fault, fault_of, memory_fault, IsMemoryFault, emit_layers}
use Rattle.yaml_emit_layout.specs.declared.Cursor.{Cursor}
use Rattle.yaml_emit_layout.specs.declared.Encoding.{Encoding}
use Rattle.yaml_emit_layout.specs.declared.Settings.{Settings}
use Rattle.yaml_emit_layout.specs.declared.Status.{Status}
use Rattle.yaml_emit_layout.specs.declared.Status.TheVariants.{Going, Full, Deep, Starved}
use Rattle.yaml_emit_layout.specs.declared.RequestedSettings.{RequestedSettings}
use Rattle.yaml_emit_layout.specs.Text.{Item, encode, is_deep}
use Rattle.yaml_emit_layout.specs.Settings.{settled}
use Rattle.yaml_emit_layout.specs.Sink.{Output}
use Rattle.yaml_emit_layout.specs.declared.Expected.{Expected}
use Rattle.yaml_emit_layout.specs.declared.Problem.{Problem}
use Rattle.yaml_parse_model.specs.Nodes as model
use Rattle.yaml_parse_model.specs.Documents as documents
use Rattle.yaml_emit_layout.specs.Content.{Event, stream_start, stream_end}
use Rattle.yaml_emit_layout.specs.Grammar.{problem_bytes}
use Rattle.yaml_emit_layout.specs.Streams.{IsStream}
use Rattle.yaml_emit_layout.specs.State.{State}
use Rattle.yaml_emit_core.specs.Finish.{Finishes}
use Rattle.yaml_emit_machine.specs.Judged.{refused_at}
use Rattle.yaml_emit_graph.specs.Graph.{dumped}

-- How the text goes on after the output, from the first event on. What it makes of the events that follow is all that is said of
-- it: no clause of a call speaks of its parts, but those that hand them out and take them up again (`Resuming.antt`).
pub record Course : Type 0 where
  -- the settings in force
  pub settings : Settings
  -- what is expected next, the open collections, and the directives of the document
  pub state : State
  -- the place of the next character
  pub cursor : Cursor

-- the settings in force of what was asked for, in that encoding
abbrev pub settings_in : RequestedSettings → Encoding → Settings
settings_in w x = record (settled w YAML_ANY_ENCODING) { encoding = x }

-- What a clause sees of an emitter.
pub record Emitter : Type 0 where
  -- the settings that were set, and the limit
  pub requested_settings : RequestedSettings
  pub limit : ℕ
  -- the events that were given and are not laid out, the oldest first
  pub held : List Event
  -- the text so far
  pub output : List ℕ
  -- no event was given
  pub fresh : Bool
  pub opened : Bool
  pub closed : Bool
  -- the first fault
  pub fault : Option Fault
  pub course : Course
  -- that the output goes on, or what has stopped it: the limit, an indentation that is too deep, or out of memory
  pub status : Status
  -- it was stopped by memory that was refused for the open collections, the directives, the held events or a dump, and not for the
  -- text
  pub starved : Bool

-- the output as the definitions of a text see it
abbrev pub text_of : Emitter → Output
text_of e = record {
  bytes = e.output;
  limit = e.limit;
  encoding = e.course.settings.encoding;
  status = e.status;
  cursor = e.course.cursor;
}

abbrev pub plain_fault : yaml_error_type_t → List ℕ → yaml_origin_t → Fault
plain_fault kind problem origin = record {
  kind = kind;
  problem = problem;
  offset = 0;
  number = pos
      0;
  problem_mark = zero_mark;
  context = None;
  context_mark = zero_mark;
  origin = origin;
}

abbrev pub emitter_fault : List ℕ → Fault
emitter_fault problem = plain_fault YAML_EMITTER_ERROR problem origin.Emitter

abbrev pub memory_origin : Bool → yaml_origin_t
memory_origin true = origin.Emitter
memory_origin false = origin.Writer

-- more bytes than the limit
abbrev pub write_error : Fault
write_error = plain_fault YAML_WRITER_ERROR (codes "write error") origin.Writer

-- an indentation of more than the most columns
abbrev pub too_deep : Fault
too_deep = emitter_fault (codes "indentation is too deep")

-- the fault of an output that has stopped
abbrev pub stopped : Status → Bool → Option Fault
stopped Going levels = None
stopped Full levels = Some write_error
stopped Deep levels = Some too_deep
stopped Starved levels = Some (memory_fault (memory_origin levels))

abbrev pub problem_fault : Problem → Fault
problem_fault p = emitter_fault (problem_bytes p)

-- the fault of what has stopped the output, or else of a refused event
abbrev pub fault_by : Status → Bool → Option Problem → Option Fault
fault_by Going levels p = option_map problem_fault p
fault_by Full levels p = stopped Full levels
fault_by Deep levels p = stopped Deep levels
fault_by Starved levels p = stopped Starved levels

abbrev pub refusal_by : Expected → Status → Bool → Option Fault
refusal_by place s levels = fault_by s levels (refused_at place)

-- the encoding of a stream that begins so
abbrev pub stream_encoding : Event → yaml_encoding_t
stream_encoding (stream_start x) = x
stream_encoding e = YAML_ANY_ENCODING

-- one thing where no event was given, and another else
abbrev pub ByFresh : Bool → Type 0 → Type 0 → Type 0
ByFresh true first later = first
ByFresh false first later = later

-- In that encoding, `ends` says this of the text, with the events that are held and these.
abbrev pub Says : (Settings → State → Output → List Event → List Item → Type 0) → Emitter
    → Encoding → List Event → List Item → Type 0
Says ends e x es whole = (e.course.settings.encoding ≡ x)
    × ends e.course.settings e.course.state (text_of e) (e.held ++ es) whole

abbrev pub CompletesBy : Bool → Emitter → Encoding → List Event → List Item → Type 0
CompletesBy fresh e x es whole = ByFresh fresh (IsStream e.requested_settings x es whole)
    (Says Finishes e x es whole)

-- With these events to come up to the stream's end, and nothing wrong in them, the whole text is `whole`, in that encoding.
unfoldable pub Completes : Emitter → Encoding → List Event → List Item → Type 0
Completes e x es whole = CompletesBy e.fresh e x es whole

-- the stream is open, or closed, as it was
abbrev pub Keeps : Emitter → Emitter → Type 0
Keeps old new = (new.opened ≡ old.opened) × (new.closed ≡ old.closed)

abbrev pub left_if : Bool → List Event → List Event
left_if true es = es
left_if false es = []

-- ---- the events of a dump: the stream is opened unless it was, and a document without a root closes it unless it was

abbrev pub opening_events : Bool → List Event
opening_events true = []
opening_events false = stream_start YAML_ANY_ENCODING ∷ []

abbrev pub closing_events : Bool → List Event
closing_events true = []
closing_events false = stream_end ∷ []

abbrev pub document_events_by : Bool → List model.Node → documents.Document → List Event
document_events_by closed [] d = closing_events closed
document_events_by closed (n ∷ ns) d = dumped d

abbrev pub document_events : Bool → documents.Document → List Event
document_events closed d = document_events_by closed d.nodes d

abbrev pub dump_events : Emitter → documents.Document → List Event
dump_events e d = opening_events e.opened ++ document_events e.closed d

-- ---- the limits

-- the text has more bytes than the limit
abbrev pub PassesSize : ℕ → List ℕ → Type 0
PassesSize limit bytes = limit < length bytes

-- laying out some scalar or collection makes an indentation of more than the most columns: the layout marks such a place
abbrev pub PassesColumns : Bool → Type 0
PassesColumns deep = deep ≡ true

-- the fault names the limit that is passed
abbrev pub Passes : ℕ → List ℕ → Bool → Fault → Type 0
Passes limit bytes deep f = ((f ≡ write_error) × PassesSize limit bytes)
    ⊎ ((f ≡ too_deep) × PassesColumns deep)

-- The fault says that memory ran out, or names a limit that each text passes which the emitter completes.
abbrev pub IsLimited : Emitter → Fault → Type 0
IsLimited e f = IsMemoryFault emit_layers f ⊎ ((x : Encoding) (es : List Event) (whole : List Item)
    → Completes e x es whole → Passes e.limit (encode x whole) (is_deep whole) f)

-- What is written is the front of each text that the emitter completes: all up to the limit where that was passed.
abbrev pub HasWritten : Status → ℕ → List ℕ → List ℕ → Bool → Type 0
HasWritten Going limit output bytes deep = (rest : List ℕ) × (bytes ≡ output ++ rest)
HasWritten Full limit output bytes deep = (output ≡ take limit bytes) × PassesSize limit bytes
HasWritten Deep limit output bytes deep = PassesColumns deep
    × ((rest : List ℕ) × (bytes ≡ output ++ rest))
HasWritten Starved limit output bytes deep = (rest : List ℕ) × (bytes ≡ output ++ rest)

abbrev pub ShowsFront : Emitter → List ℕ → Type 0
ShowsFront e output = (x : Encoding) (es : List Event) (whole : List Item) → Completes e x es whole
    → HasWritten e.status e.limit output (encode x whole) (is_deep whole)

-- with no event to come and no fault, the output is the whole
abbrev pub IsWhole : Emitter → List ℕ → Type 0
IsWhole e output = e.fault ≡ None → (x : Encoding) (whole : List Item) → Completes e x [] whole
    → output ≡ encode x whole

-- a new emitter: any encoding and break, canonical and unicode off, indent 2, the default width
abbrev pub first_requested : RequestedSettings
first_requested = record {
  encoding = YAML_ANY_ENCODING;
  canonical = false;
  indent = pos default_indent;
  width = pos default_width;
  unicode = false;
  line_break = YAML_ANY_BREAK;
}

pub record IsNew (e : Emitter) (most : ℕ) : Type 0 where
  pub requested_settings : e.requested_settings ≡ first_requested
  pub limit : e.limit ≡ most
  pub fresh : e.fresh ≡ true
  pub opened : e.opened ≡ false
  pub closed : e.closed ≡ false
  pub fault : e.fault ≡ None
  pub held : e.held ≡ []
  pub output : e.output ≡ []

-- a call answers the first fault, if there is one
abbrev pub Answers : Option Fault → Result (Unit {0}) yaml_fault_t → Type 0
Answers fault (Ok x) = fault ≡ None
Answers fault (Err f) = fault ≡ Some (fault_of f)

-- after a fault nothing changes
abbrev pub Stays : Emitter → Emitter → Type 0
Stays old new = (f : Fault) → old.fault ≡ Some f → new ≡ old
