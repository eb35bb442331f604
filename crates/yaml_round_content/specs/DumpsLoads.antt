-- What is loaded depends on what the events say alone, and not on the names of anchors.
use Rattle.std.specs.Prelude.{◌≡◌, ◌↔◌, ℕ, List, map, Option, None}
use Rattle.yaml_parse_model.specs.scan_types.Faults.{Fault}
use Rattle.yaml_parse_loader.specs.Loading.{nothing_loaded}
use Rattle.yaml_parse_model.specs.Documents as documents
use Rattle.yaml_emit_laws.specs.parse_grammar.Resolve.{Told}
use Rattle.yaml_emit_laws.specs.emit_graph.Graph.{graph_content}
use Rattle.yaml_round_content.specs.Events.{contents}
use Rattle.yaml_round_content.specs.Said.{Document, stream_says}
use Rattle.yaml_round_content.specs.Trees.{document_trees}
use Rattle.yaml_round_content.specs.Loads.{load_all}
use Rattle.yaml_round_content.specs.Agree.{Agrees, LoadAlike}
use Rattle.yaml_round_content.specs.Renamed.{Renaming, renamed, AreOneToOne}

-- Events of the same content load documents that agree, and both or neither are refused.
abbrev pub LoadsOfContent : Type 0
LoadsOfContent = (es fs : List Told) (f g : Option Fault) → ((f ≡ None) ↔ (g ≡ None))
    → contents es ≡ contents fs
    → LoadAlike (load_all es f nothing_loaded) (load_all fs g nothing_loaded)

-- So do events of the same content under other names: each document's anchors and aliases are
-- renamed, no two names of one document becoming one.
abbrev pub LoadsOfRenamed : Type 0
LoadsOfRenamed = (r : ℕ → Renaming) (c : List Document) → AreOneToOne r c
    → (es fs : List Told) (f g : Option Fault) → ((f ≡ None) ↔ (g ≡ None))
    → contents es ≡ stream_says c → contents fs ≡ stream_says (renamed r c)
    → LoadAlike (load_all es f nothing_loaded) (load_all fs g nothing_loaded)

-- Documents that agree have the same content, as they are dumped: the trees of their nodes are
-- equal.
abbrev pub AgreeingSayTheSame : Type 0
AgreeingSayTheSame = (ds es : List documents.Document) → Agrees ds es
    → document_trees (map graph_content ds) ≡ document_trees (map graph_content es)
