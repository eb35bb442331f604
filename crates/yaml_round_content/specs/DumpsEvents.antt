-- The events of a content, as a loader is fed them without styles and marks, and what they load.
use Rattle.std.specs.Prelude.{◌<◌, ◌^◌, true, List, [], ◌∷◌, length, map, Some, None, Result, Ok, Err}
use Rattle.yaml_parse_model.specs.scan_model.declared.name.yaml_encoding_t.TheVariants.{YAML_ANY_ENCODING}
use Rattle.yaml_parse_model.specs.scan_types.Tokens.{zero_mark}
use Rattle.yaml_parse_model.specs.scan_types.Faults.{Fault}
use Rattle.yaml_parse_model.specs.Events.{Event, EventBody}
use Rattle.yaml_parse_model.specs.Events as event
use Rattle.yaml_parse_model.specs.Documents as documents
use Rattle.yaml_emit_laws.specs.parse_grammar.Resolve.{Told}
use Rattle.yaml_parse_loader.specs.Numbering.{DocumentContent, spanning, document_events, document_of}
use Rattle.yaml_emit_laws.specs.emit_graph.Graph.{graph_content}
use Rattle.yaml_round_content.specs.Said.{Document}
use Rattle.yaml_round_content.specs.Canon.{written_document}
use Rattle.yaml_round_content.specs.Trees.{document_trees}
use Rattle.yaml_round_content.specs.Loads.{Loads, no_more, in_front}
use Rattle.yaml_emit_laws.specs.Dumps.{as_document, core_document, IsLoadedDocument}

-- ---- events

-- the event of no place
abbrev pub unplaced : EventBody → Event
unplaced body = spanning body zero_mark zero_mark

-- a document's content, as it is written
abbrev pub loader_content : Document → DocumentContent
loader_content d = as_document (written_document d)

abbrev pub content_events : List Document → List Event
content_events [] = unplaced event.stream_end ∷ []
content_events (d ∷ ds) = document_events (loader_content d) (content_events ds)

abbrev pub told_by : List Event → List Told
told_by es = map (λ (e : Event). (e, 0)) es

-- the events of a stream that says the content
abbrev pub events_saying : List Document → List Told
events_saying c = told_by (unplaced (event.stream_start YAML_ANY_ENCODING) ∷ content_events c)

-- ---- what they load

abbrev pub load_of : Result documents.Document Fault → Loads → Loads
load_of (Ok d) rest = in_front d.nodes d rest
load_of (Err f) rest = no_more (Some f)

-- each document of the content, numbered
abbrev pub load_each : List Document → Loads
load_each [] = no_more None
load_each (d ∷ ds) = load_of (document_of (loader_content d)) (load_each ds)

-- ---- dumps

-- what documents say
abbrev pub trees_of_dumps : List documents.Document → List Document
trees_of_dumps ds = document_trees (map graph_content ds)

-- a document as its dump loads: all marks are implicit
abbrev pub loaded_again : documents.Document → documents.Document
loaded_again d = record (core_document d) { start_implicit = true; end_implicit = true }

abbrev pub AreLoadedDocuments : List documents.Document → Type 0
AreLoadedDocuments [] = Unit {0}
AreLoadedDocuments (d ∷ ds) = IsLoadedDocument d × AreLoadedDocuments ds

-- each has fewer nodes than a `u64` can number
abbrev pub AreNumerable : List documents.Document → Type 0
AreNumerable [] = Unit {0}
AreNumerable (d ∷ ds) = (length d.nodes < 2 ^ 64) × AreNumerable ds
