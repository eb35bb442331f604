-- Keys that are in a mapping of an input more than once.
use Rattle.std.specs.Prelude.{◌≡◌, ◌++◌, ℕ, List, [], ◌∷◌, Result, Ok, Err, All}
use Rattle.yaml_scan_model.specs.declared.name.yaml_encoding_t.{yaml_encoding_t}
use Rattle.yaml_scan_model.specs.scan_types.Faults.{Fault}
use Rattle.yaml_round_engine.specs.parse_model.Documents.{Document}
use Rattle.yaml_round_engine.specs.round_content.PlainLoading.{PlainLoading}
use Rattle.yaml_round_documents.specs.declared.repeated.yaml_same_key_t.{yaml_same_key_t}
use Rattle.yaml_round_documents.specs.Telling.{AreSameKeys, HaveDistinctKeys}

-- document by document, exactly the keys to which an earlier key of the same mapping is the same
abbrev pub AreTold : List Document → List yaml_same_key_t → Type 0
AreTold [] told = told ≡ []
AreTold (d ∷ ds) told = (keys : List yaml_same_key_t) × (others : List yaml_same_key_t)
    × (told ≡ keys ++ others) × AreSameKeys d.nodes keys × AreTold ds others

-- These are the repeated keys of the documents that the input loads; or the fault that loading its
-- tokens ends in, the one of the least place.
abbrev pub IsKeyCheck : yaml_encoding_t → List ℕ → Result (List yaml_same_key_t) Fault → Type 0
IsKeyCheck from input (Ok told) = (documents : List Document)
    × PlainLoading from input (Ok documents) × AreTold documents told
IsKeyCheck from input (Err fault) = PlainLoading from input (Err fault)

-- The input loads, and in each of its documents the keys of each mapping are distinct.
abbrev pub HasDistinctKeys : yaml_encoding_t → List ℕ → Type 0
HasDistinctKeys from input = (documents : List Document) × PlainLoading from input (Ok documents)
    × All (λ (d : Document). HaveDistinctKeys d.nodes) documents
