-- The documents of an input, loaded one after another, and their text.
use Rattle.std.specs.Prelude.{◌≡◌, ◌⊎◌, ◌<◌, ◌^◌, ℕ, Bool, true, false, List, [], ◌∷◌, length, map, Option, None, Some, Result, Ok, Err}
use Rattle.yaml_parse.specs.declared.yaml_encoding_t.{yaml_encoding_t}
use Rattle.yaml_parse.specs.declared.yaml_encoding_t.TheVariants.{YAML_ANY_ENCODING}
use Rattle.yaml_parse.specs.declared.yaml_fault_t.{yaml_fault_t}
use Rattle.yaml_scan_types.specs.Faults.{Fault, fault_of, IsMemoryFault, load_layers}
use Rattle.yaml_parse.specs.Documents.{Document}
use Rattle.yaml_parse.specs.Remaining.{ParserRemaining}
use Rattle.yaml_parse.specs.Loading.{nothing_loaded}
use Rattle.yaml_emit.specs.Content.{Event, documents_events, stream_events, stream_end}
use Rattle.yaml_emit.specs.emit_graph.Graph.{graph_content}
use Rattle.yaml_emit.specs.Text.{Item}
use Rattle.yaml_emit.specs.Emitter.{Emitter, Completes}
use Rattle.yaml_emit.specs.emit_layout.declared.Encoding.{Encoding}
use Rattle.yaml_round_device.specs.declared.yaml_settings_t.{yaml_settings_t}
use Rattle.yaml_round_content.specs.Loads.{Loads, no_more, load_all, loads_of}
use Rattle.yaml_round_content.specs.PlainLoading.{PlainLoading}
use Rattle.yaml_round_engine.specs.Writing.{requested_under, IsEachLayout, IsPastEach}
use Rattle.yaml_round_content.specs.Agree.{Agrees}
use Rattle.yaml_round_content.specs.DumpsEvents.{trees_of_dumps, AreNumerable}
use Rattle.yaml_round_content.specs.Normal.{ended, AreWritableDocuments}
use Rattle.yaml_round_engine.specs.Answers.{IsLayout, IsPast, canonical_text}

-- ---- what is loaded

-- the end of each document is made implicit
abbrev pub to_write : Loads → Loads
to_write l = record { documents = ended l.documents; fault = l.fault }

-- what a parser still has to load, so
abbrev pub to_load : ParserRemaining → Loads
to_load c = to_write (load_all c.events c.ending nothing_loaded)

-- ---- what is written

-- the events of the documents as one stream
abbrev pub stream_of : List Document → List Event
stream_of ds = stream_events YAML_ANY_ENCODING (map graph_content ds)

-- the same, each end implicit
abbrev pub written_events : List Document → List Event
written_events ds = stream_of (ended ds)

-- The layout of the documents in canonical form, or a limit that it passes.
abbrev pub IsDumped : yaml_settings_t → List Document → Result (List ℕ) Fault → Type 0
IsDumped settings ds (Ok text) = IsLayout (requested_under settings true) settings.limit
    (written_events ds) text
IsDumped settings ds (Err fault) = IsPast (requested_under settings true) settings.limit
    (written_events ds) fault

-- The text is the normal form of the documents: it loads documents that agree with them, no others have it, and it is laid out
-- again as itself.
pub record IsNormalOfDocuments (settings : yaml_settings_t) (documents : List Document)
    (text : List ℕ) : Type 0 where
  -- it is the canonical text of what they say
  pub is : text ≡ canonical_text settings (trees_of_dumps documents)
  -- read as its byte order mark shows, it loads, without a fault, documents that agree with them
  pub back : List Document
  pub right : PlainLoading YAML_ANY_ENCODING text (Ok back)
  pub agree : Agrees documents back
  -- the documents of any input whose text it is agree with them
  pub only : (other : yaml_encoding_t) (source : List ℕ) (others : List Document)
      → PlainLoading other source (Ok others)
      → canonical_text settings (trees_of_dumps others) ≡ text → Agrees documents others
  -- and so do any that are as loading makes them, as those before a fault are
  pub any : (others : List Document) → AreWritableDocuments others
      → canonical_text settings (trees_of_dumps others) ≡ text → Agrees documents others
  -- it is laid out for the documents that it loads itself
  pub again : IsDumped settings back (Ok text)

-- The documents of the plain loading, laid out, or a limit that the layout passes.
pub record LaysOutLoading (from : yaml_encoding_t) (settings : yaml_settings_t) (input : List ℕ)
    (result : Result (List ℕ) Fault) : Type 0 where
  pub documents : List Document
  pub loading : PlainLoading from input (Ok documents)
  pub dumped : IsDumped settings documents result

-- The documents of the input's tree, laid out, a normal form of them; the fault that loading its tokens ends in, the one of the
-- least place; or, where there is none, a limit that the layout passes.
unfoldable pub IsReloaded : yaml_encoding_t → yaml_settings_t → List ℕ → Result (List ℕ) Fault
    → Type 0
IsReloaded from settings input (Ok text) = (laid : LaysOutLoading from settings input (Ok text))
    × IsNormalOfDocuments settings laid.documents text
IsReloaded from settings input (Err fault) = PlainLoading from input (Err fault)
    ⊎ LaysOutLoading from settings input (Err fault)

-- ---- the steps

abbrev pub HasRoot : Document → Type 0
HasRoot d = 0 < length d.nodes

-- the next document was loaded, and the others are left
pub record LoadsDocument (d : Document) (old new : ParserRemaining) : Type 0 where
  pub same : to_load old ≡ record {
    documents = d ∷ (to_load new).documents;
    fault = (to_load new).fault;
  }
  pub less : length new.events < length old.events
  pub rooted : HasRoot d
  pub small : length d.nodes < 2 ^ 64

abbrev pub LoadsNext : ParserRemaining → Result (Option Document) yaml_fault_t → ParserRemaining
    → Type 0
LoadsNext old (Ok (Some d)) new = LoadsDocument d old new
LoadsNext old (Ok None) new = to_load old ≡ no_more None
LoadsNext old (Err f) new = IsMemoryFault load_layers (fault_of f)
    ⊎ (to_load old ≡ no_more (Some (fault_of f)))

-- Each layout of the documents in canonical form, or a limit that each passes.
abbrev pub IsEachDump : yaml_settings_t → List Document → Result (List ℕ) Fault → Type 0
IsEachDump settings ds (Ok text) = IsEachLayout (requested_under settings true) settings.limit
    (stream_of ds) text
IsEachDump settings ds (Err fault) = IsPastEach (requested_under settings true) settings.limit
    (stream_of ds) fault

-- all documents of an input, their ends made implicit, each with fewer nodes than a `usize` can number
pub record AreLoaded (from : yaml_encoding_t) (input : List ℕ) (ds : List Document) : Type 0 where
  pub same : ds ≡ ended (loads_of from input).documents
  pub right : (loads_of from input).fault ≡ None
  pub small : AreNumerable ds

abbrev pub IsLoaded : yaml_encoding_t → List ℕ → Result (List Document) Fault → Type 0
IsLoaded from input (Ok ds) = AreLoaded from input ds
IsLoaded from input (Err f) = (loads_of from input).fault ≡ Some f

-- With these events to come from one emitter and those from the other, the text is the same.
pub record FeedsEmitter (old : Emitter) (before : List Event) (new : Emitter)
    (after : List Event) : Type 0 where
  pub completes : (x : Encoding) (whole : List Item) → Completes old x before whole
      → Completes new x after whole
  pub limit : new.limit ≡ old.limit

-- documents were given, and the end of the stream is to come; or a fault has come before
pub record IsWithinStream (e : Emitter) : Type 0 where
  pub opened : e.opened ≡ true
  pub closed : e.closed ≡ false

abbrev pub DumpsAll : Emitter → List Document → Bool → Emitter → Type 0
DumpsAll old ds true new =
    FeedsEmitter old (documents_events (map graph_content ds)) new (stream_end ∷ [])
    × IsWithinStream new
DumpsAll old ds false new = (left : List Event)
    × (FeedsEmitter old (documents_events (map graph_content ds)) new left × (new.fault ≡ None → ⊥))

-- the whole stream was given, or a fault has come
pub record DumpsStream (old : Emitter) (ds : List Document) (new : Emitter) : Type 0 where
  pub left : List Event
  pub feeds : FeedsEmitter old (stream_of ds) new left
  pub all : new.fault ≡ None → left ≡ []
