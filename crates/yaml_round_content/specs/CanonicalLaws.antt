-- The documents that an input loads: they are sound, and what they say may be written.
use Rattle.std.specs.Prelude.{ℕ, List}
use Rattle.std.specs.List.{All}
use Rattle.yaml_parse_model.specs.scan_model.declared.name.yaml_encoding_t.{yaml_encoding_t}
use Rattle.yaml_parse_model.specs.Documents.{IsDocument}
use Rattle.yaml_parse_loader.specs.Order.{IsInPreorder}
use Rattle.yaml_round_content.specs.Loads.{loads_of}
use Rattle.yaml_round_content.specs.Writable.{AreWritable}
use Rattle.yaml_round_content.specs.DumpsEvents.{trees_of_dumps, AreLoadedDocuments}

-- The documents of each input, also those before a fault, are documents as loading makes them: their numbers follow the first
-- visits from the root, each node has a kind, and no tag is `!`.
abbrev pub AllLoadDocuments : Type 0
AllLoadDocuments = (from : yaml_encoding_t) (input : List ℕ)
    → AreLoadedDocuments (loads_of from input).documents

-- Their texts are UTF-8, their numbers name their nodes, and follow the first visits in preorder from the root, a pair's key before
-- its value.
abbrev pub LoadedAreSound : Type 0
LoadedAreSound = (from : yaml_encoding_t) (input : List ℕ)
    → All (λ d. IsDocument d × IsInPreorder d.nodes) (loads_of from input).documents

-- What they say may be written.
abbrev pub LoadedAreWritable : Type 0
LoadedAreWritable = (from : yaml_encoding_t) (input : List ℕ)
    → AreWritable (trees_of_dumps (loads_of from input).documents)
