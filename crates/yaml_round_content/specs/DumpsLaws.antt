-- What dumps say loads the documents again.
use Rattle.std.specs.Prelude.{◌≡◌, ℕ, List, map, None}
use Rattle.yaml_parse_model.specs.scan_model.declared.name.yaml_encoding_t.{yaml_encoding_t}
use Rattle.yaml_parse_model.specs.Documents as documents
use Rattle.yaml_parse_loader.specs.Loading.{nothing_loaded}
use Rattle.yaml_emit_laws.specs.parse_grammar.Resolve.{Told}
use Rattle.yaml_round_content.specs.Events.{contents}
use Rattle.yaml_round_content.specs.Said.{Document, stream_says, HasContent}
use Rattle.yaml_round_content.specs.Loads.{load_all, loads_of}
use Rattle.yaml_round_content.specs.Writable.{AreWritable}
use Rattle.yaml_round_content.specs.Agree.{Agrees}
use Rattle.yaml_round_content.specs.DumpsEvents.{events_saying, load_each, trees_of_dumps, loaded_again, AreLoadedDocuments}

-- ---- the events of a content

-- They say it, where it may be written.
abbrev pub ContentIsSaid : Type 0
ContentIsSaid = (c : List Document) → AreWritable c → contents (events_saying c) ≡ stream_says c

-- Each document is loaded as it is numbered.
abbrev pub ContentIsLoaded : Type 0
ContentIsLoaded = (c : List Document)
    → load_all (events_saying c) None nothing_loaded ≡ load_each c

-- They are documents as loading makes them.
abbrev pub ContentLoadsDocuments : Type 0
ContentLoadsDocuments = (c : List Document) → AreLoadedDocuments (load_each c).documents

-- ---- dumps

-- What loaded documents say is numbered as they are, styles and marks aside.
abbrev pub DumpsAreNumberedBack : Type 0
DumpsAreNumberedBack = (ds : List documents.Document) → AreLoadedDocuments ds
    → load_each (trees_of_dumps ds)
    ≡ record { documents = map loaded_again ds; fault = None }

-- Events that say what loaded documents do load documents that agree with them, without a fault.
pub record LoadBack (ds : List documents.Document) (es : List Told) : Type 0 where
  pub agree : Agrees ds (load_all es None nothing_loaded).documents
  pub right : (load_all es None nothing_loaded).fault ≡ None

abbrev pub DumpsLoadBack : Type 0
DumpsLoadBack = (ds : List documents.Document) → AreLoadedDocuments ds
    → AreWritable (trees_of_dumps ds) → (es : List Told)
    → contents es ≡ stream_says (trees_of_dumps ds) → LoadBack ds es

-- ---- inputs

-- The documents of an input that is accepted are documents as loading makes them: their numbers follow the first visits.
abbrev pub InputsLoadDocuments : Type 0
InputsLoadDocuments = (from : yaml_encoding_t) (input : List ℕ) (c : List Document)
    → HasContent from input c → AreLoadedDocuments (loads_of from input).documents
