-- The canonical text of what documents say: it is laid out for their dumps, and loads documents that agree with them.
use Rattle.std.specs.Prelude.{◌≡◌, ◌↔◌, ℕ, true, List, map, None, Ok}
use Rattle.yaml_parse_model.specs.scan_model.declared.name.yaml_encoding_t.{yaml_encoding_t}
use Rattle.yaml_parse_model.specs.scan_model.declared.name.yaml_encoding_t.TheVariants.{YAML_ANY_ENCODING}
use Rattle.yaml_parse_model.specs.Documents.{Document}
use Rattle.yaml_emit_laws.specs.emit_layout.declared.RequestedSettings.{RequestedSettings}
use Rattle.yaml_emit_laws.specs.emit_graph.Graph.{graph_content}
use Rattle.yaml_emit_laws.specs.emit_layout.Content.{Event, stream_events}
use Rattle.yaml_emit_laws.specs.emit_layout.Streams.{IsStream}
use Rattle.yaml_round_content.specs.Said as content
use Rattle.yaml_round_content.specs.Said.{HasContent}
use Rattle.yaml_round_content.specs.Loads.{with_implicit_end, loads_of}
use Rattle.yaml_round_content.specs.Canon.{canonical_layout, canon_encoding, canon_items}
use Rattle.yaml_round_content.specs.ContentLaws.{AreCanonical}
use Rattle.yaml_round_content.specs.Agree.{Agrees, LoadAlike}
use Rattle.yaml_round_content.specs.Renamed.{Renaming, renamed, AreOneToOne}
use Rattle.yaml_round_content.specs.Writable.{AreWritable}
use Rattle.yaml_round_content.specs.PlainLoading.{PlainLoading}
use Rattle.yaml_round_content.specs.DumpsEvents.{trees_of_dumps, AreLoadedDocuments}

-- the documents as they are written
abbrev pub ended : List Document → List Document
ended ds = map with_implicit_end ds

-- the events of the documents' dumps as one stream, in which each end is implicit
abbrev pub dump_events : List Document → List Event
dump_events ds = stream_events YAML_ANY_ENCODING (map graph_content (ended ds))

-- the canonical text of what the documents say
abbrev pub dump_text : RequestedSettings → List Document → List ℕ
dump_text w ds = canonical_layout w (trees_of_dumps ds)

-- Documents as loading makes them, and what they say may be written.
pub record AreWritableDocuments (ds : List Document) : Type 0 where
  pub loaded : AreLoadedDocuments ds
  pub writable : AreWritable (trees_of_dumps ds)

-- For the dumps of an input's documents the canonical text of what they say is laid out.
abbrev pub DumpsAreLaidOut : Type 0
DumpsAreLaidOut = (w : RequestedSettings) → AreCanonical w
    → (from : yaml_encoding_t) (input : List ℕ)
    → IsStream w (canon_encoding w) (dump_events (loads_of from input).documents)
    (canon_items w (trees_of_dumps (loads_of from input).documents))

-- The text, read as its byte order mark shows, loads documents that agree with these, without a
-- fault; those have the same content, and it is their text.
pub record LoadsAgain (w : RequestedSettings) (ds : List Document) (text : List ℕ) : Type 0 where
  pub right : (loads_of YAML_ANY_ENCODING text).fault ≡ None
  pub agree : Agrees ds (loads_of YAML_ANY_ENCODING text).documents
  pub says : trees_of_dumps ds ≡ trees_of_dumps (loads_of YAML_ANY_ENCODING text).documents
  pub again : text ≡ dump_text w (loads_of YAML_ANY_ENCODING text).documents

-- So the canonical text of what such documents say does.
abbrev pub DocumentTextsLoadAgain : Type 0
DocumentTextsLoadAgain = (w : RequestedSettings) → w.canonical ≡ true
    → (ds : List Document) → AreWritableDocuments ds → LoadsAgain w ds (dump_text w ds)

-- They have one such text exactly if they agree.
abbrev pub DocumentTextsTell : Type 0
DocumentTextsTell = (w : RequestedSettings) → w.canonical ≡ true
    → (ds es : List Document) → AreWritableDocuments ds → AreWritableDocuments es
    → (dump_text w ds ≡ dump_text w es) ↔ Agrees ds es

-- Such are the documents of each input, also those before a fault.
abbrev pub LoadsAreDocuments : Type 0
LoadsAreDocuments = (from : yaml_encoding_t) (input : List ℕ)
    → AreWritableDocuments (loads_of from input).documents

-- And so are those of its plain loading.
abbrev pub PlainDocuments : Type 0
PlainDocuments = (from : yaml_encoding_t) (input : List ℕ) (ds : List Document)
    → PlainLoading from input (Ok ds) → AreWritableDocuments ds

-- So the canonical text of what an input's documents say loads again.
abbrev pub DumpTextsLoadAgain : Type 0
DumpTextsLoadAgain = (w : RequestedSettings) → w.canonical ≡ true
    → (from : yaml_encoding_t) (input : List ℕ)
    → LoadsAgain w (loads_of from input).documents (dump_text w (loads_of from input).documents)

-- Inputs have one such text exactly if their documents agree.
abbrev pub DumpTextsTellDocuments : Type 0
DumpTextsTellDocuments = (w : RequestedSettings) → w.canonical ≡ true
    → (a_from : yaml_encoding_t) (a : List ℕ) (b_from : yaml_encoding_t) (b : List ℕ)
    → (dump_text w (loads_of a_from a).documents ≡ dump_text w (loads_of b_from b).documents)
    ↔ Agrees (loads_of a_from a).documents (loads_of b_from b).documents

-- Inputs with one content load documents that agree, and both or neither are refused.
abbrev pub InputsLoadAlike : Type 0
InputsLoadAlike = (c : List content.Document)
    → (a_from : yaml_encoding_t) (a : List ℕ) → HasContent a_from a c
    → (b_from : yaml_encoding_t) (b : List ℕ) → HasContent b_from b c
    → LoadAlike (loads_of a_from a) (loads_of b_from b)

-- The names of anchors don't matter: inputs with one content except for the names of each document have one such text.
abbrev pub NamesDoNotMatter : Type 0
NamesDoNotMatter = (w : RequestedSettings) (r : ℕ → Renaming) (c : List content.Document)
    → AreOneToOne r c → (a_from : yaml_encoding_t) (a : List ℕ) → HasContent a_from a c
    → (b_from : yaml_encoding_t) (b : List ℕ) → HasContent b_from b (renamed r c)
    → dump_text w (loads_of a_from a).documents ≡ dump_text w (loads_of b_from b).documents
