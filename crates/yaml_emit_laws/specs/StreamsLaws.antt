-- Which lists of events are a stream's, and that what a document says is right.
use Rattle.std.specs.Prelude.{◌≡◌, ◌<◌, ℕ, Bool, true, List, [], ◌∷◌, ◌++◌, length, map, Option, Some, None}
use Rattle.yaml_emit_graph.specs.scan_model.declared.name.yaml_encoding_t.{yaml_encoding_t}
use Rattle.yaml_emit_graph.specs.scan_types.Faults.{Fault}
use Rattle.yaml_emit_graph.specs.emit_layout.parse_model.Events as event
use Rattle.yaml_emit_graph.specs.emit_layout.parse_model.Nodes as model
use Rattle.yaml_parse_laws_trees.specs.parse_model.Documents as documents
use Rattle.yaml_parse_laws_trees.specs.parse_grammar.Resolve.{Told}
use Rattle.yaml_parse_laws_trees.specs.parse_loader.Loading.{Loading, LoadStep, goes_on, loaded, refused, step}
use Rattle.yaml_parse_laws_trees.specs.NextLoad.{NextLoad, next_document, next_fault, next_none, IsLoadOf}
use Rattle.yaml_emit_graph.specs.emit_layout.declared.Encoding.{Encoding}
use Rattle.yaml_emit_graph.specs.emit_layout.declared.RequestedSettings.{RequestedSettings}
use Rattle.yaml_emit_graph.specs.emit_layout.Text.{Item}
use Rattle.yaml_emit_graph.specs.emit_layout.declared.Expected.TheVariants as at
use Rattle.yaml_emit_graph.specs.emit_layout.Content.{Opening, Document, Event, emitter_event, stream_events}
use Rattle.yaml_emit_graph.specs.emit_layout.Grammar.{opening_problem, own_problem, own_problems}
use Rattle.yaml_emit_graph.specs.emit_layout.Progress.{Progress, first_progress, progress_after, first_refusal}
use Rattle.yaml_emit_graph.specs.emit_layout.Streams.{IsStream}
use Rattle.yaml_emit_graph.specs.Graph.{graph_opening, graph_content, dumped}

-- what a list of events has come to after others
unfoldable pub progress_behind : Progress → List Event → Progress
progress_behind h [] = h
progress_behind h (e ∷ es) = progress_behind (progress_after h e) es

-- the events of a stream in which nothing is wrong
pub record IsEmittable (canonical : Bool) (es : List Event) : Type 0 where
  pub encoding : yaml_encoding_t
  pub documents : List Document
  pub same : es ≡ stream_events encoding documents
  pub right : own_problems canonical es ≡ None

-- a front of such a stream's events
pub record RightFront (canonical : Bool) (es : List Event) : Type 0 where
  pub more : List Event
  pub whole : IsEmittable canonical (es ++ more)

-- ---- which lists pass

-- A list of events of which none is refused, and which ends the stream, is a stream's in which nothing is wrong.
abbrev pub PassedAreStreams : Type 0
PassedAreStreams = (canonical : Bool) (es : List Event) → first_refusal canonical first_progress es
    ≡ None → (progress_behind first_progress es).place ≡ at.End → IsEmittable canonical es

-- A list of events of which none is refused, wherever it ends, is a front of such a stream.
abbrev pub PassedAreFronts : Type 0
PassedAreFronts = (canonical : Bool) (es : List Event) → first_refusal canonical first_progress es
    ≡ None → RightFront canonical es

-- the text of a stream under the settings that were set
pub record HasText (w : RequestedSettings) (es : List Event) : Type 0 where
  pub encoding : Encoding
  pub whole : List Item
  pub is : IsStream w encoding es whole

-- Such a stream has a text, which is its layout.
abbrev pub RightStreamsHaveTexts : Type 0
RightStreamsHaveTexts = (w : RequestedSettings) (es : List Event) → IsEmittable w.canonical es
    → HasText w es

-- ---- what a document says

-- no node's tag is empty
abbrev pub AreTagged : List model.Node → Type 0
AreTagged [] = Unit {0}
AreTagged (n ∷ ns) = (0 < length n.tag) × AreTagged ns

-- a document whose tags may be written, with a version and directives that may
pub record RightDocument (d : documents.Document) : Type 0 where
  pub tags : AreTagged d.nodes
  pub opening : opening_problem (graph_opening d) ≡ None

abbrev pub AreRight : List documents.Document → Type 0
AreRight [] = Unit {0}
AreRight (d ∷ ds) = RightDocument d × AreRight ds

-- Nothing is wrong with the events of a dump.
abbrev pub DumpsAreRight : Type 0
DumpsAreRight = (canonical : Bool) (d : documents.Document) → RightDocument d
    → own_problems canonical (dumped d) ≡ None

-- Nor with those of a stream of dumps.
abbrev pub DumpedStreamsAreRight : Type 0
DumpedStreamsAreRight = (canonical : Bool) (x : yaml_encoding_t) (ds : List documents.Document)
    → AreRight ds → own_problems canonical (stream_events x (map graph_content ds)) ≡ None

-- ---- what is loaded

-- a tag that isn't empty, if there is one
abbrev pub MayTag : Option (List ℕ) → Type 0
MayTag None = Unit {0}
MayTag (Some tag) = 0 < length tag

-- an event whose tag isn't empty; one that opens a document, with a version and directives that may be written
abbrev pub RightBody : event.EventBody → Type 0
RightBody (event.document_start version directives implicit) =
    let o : Opening = record { version = version; directives = directives; implicit = implicit }
    in opening_problem o ≡ None
RightBody (event.scalar anchor tag value plain quoted style) = MayTag tag
RightBody (event.sequence_start anchor tag implicit style) = MayTag tag
RightBody (event.mapping_start anchor tag implicit style) = MayTag tag
RightBody _ = Unit {0}

abbrev pub AreRightTold : List Told → Type 0
AreRightTold [] = Unit {0}
AreRightTold (g ∷ gs) = RightBody g.0.body × AreRightTold gs

-- a document in the making, or a whole one
abbrev pub RightFed : LoadStep → Type 0
RightFed (goes_on l) = RightDocument l.document
RightFed (loaded d) = RightDocument d
RightFed (refused f) = Unit {0}

abbrev pub RightLoad : NextLoad → Type 0
RightLoad (next_document d left unasked) = RightDocument d × AreRightTold left
RightLoad (next_fault f unasked) = Unit {0}
RightLoad next_none = Unit {0}

-- An event that an emitter takes in canonical form is right.
abbrev pub TakenAreRight : Type 0
TakenAreRight = (b : event.EventBody) → own_problem true (emitter_event b) ≡ None → RightBody b

-- What a right event makes of a right document is right.
abbrev pub StepsKeepRight : Type 0
StepsKeepRight = (e : event.Event) (l : Loading) → RightBody e.body → RightDocument l.document
    → RightFed (step e l)

-- A document that is loaded of right events is right.
abbrev pub LoadsAreRight : Type 0
LoadsAreRight = (gs : List Told) (f : Option Fault) (unasked : ℕ) (n : NextLoad)
    → AreRightTold gs → IsLoadOf gs f unasked n → RightLoad n
