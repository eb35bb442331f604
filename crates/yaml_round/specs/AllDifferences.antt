-- Every place where two inputs differ.
use Rattle.std.specs.Prelude.{◌≡◌, ◌⊎◌, ◌↔◌, ℕ, Bool, true, false, List, [], Option, Some, None, Result, Ok, Err}
use Rattle.yaml_scan_model.specs.declared.name.yaml_encoding_t.{yaml_encoding_t}
use Rattle.yaml_scan_model.specs.declared.fault.yaml_fault_t.{yaml_fault_t}
use Rattle.yaml_scan_model.specs.scan_types.Faults.{IsMemoryFault, fault_of, load_layers}
use Rattle.yaml_round_engine.specs.parse_model.Documents.{Document}
use Rattle.yaml_round_engine.specs.Answers.{SameContent}
use Rattle.yaml_round_engine.specs.Reload.{AreLoaded}
use Rattle.yaml_round_engine.specs.declared.yaml_side_t.{yaml_side_t}
use Rattle.yaml_round_engine.specs.declared.yaml_side_t.TheVariants.{First}
use Rattle.yaml_round_engine.specs.declared.difference.yaml_difference_t.{yaml_difference_t}
use Rattle.yaml_round_engine.specs.Differences.{IsDiff, IsParting}
use Rattle.yaml_round_engine.specs.Loaded.{IsSideShort, IsSideUnloaded}
use Rattle.yaml_round_documents.specs.Streams.{AreEqualStreams, AreStreamDifferences}
use Rattle.yaml_round.specs.declared.differences.yaml_differences_t.{yaml_differences_t}

-- The inputs load these documents; these pairs of nodes are compared, and differ at these places.
pub record AreAllDifferences (a_from : yaml_encoding_t) (a : List ℕ) (b_from : yaml_encoding_t)
    (b : List ℕ) (d : yaml_differences_t) : Type 0 where
  pub first : AreLoaded a_from a d.first.items
  pub second : AreLoaded b_from b d.second.items
  pub differ : AreStreamDifferences 0 d.first.items d.second.items d.pairs.items d.told.items
  pub equal : (d.told.items ≡ []) ↔ AreEqualStreams d.first.items d.second.items

-- nothing is listed
pub record TellsNothing (d : yaml_differences_t) : Type 0 where
  pub first : d.first.items ≡ []
  pub second : d.second.items ≡ []
  pub pairs : d.pairs.items ≡ []
  pub told : d.told.items ≡ []

-- the inputs load documents that are equal
pub record HaveEqualDocuments (a_from : yaml_encoding_t) (a : List ℕ) (b_from : yaml_encoding_t)
    (b : List ℕ) : Type 0 where
  pub first : List Document
  pub second : List Document
  pub first_loads : AreLoaded a_from a first
  pub second_loads : AreLoaded b_from b second
  pub equal : AreEqualStreams first second

-- the documents are equal, or else the contents
abbrev pub AreAlike : yaml_encoding_t → List ℕ → yaml_encoding_t → List ℕ → Bool → Type 0
AreAlike a_from a b_from b true = HaveEqualDocuments a_from a b_from b
AreAlike a_from a b_from b false = SameContent a_from a b_from b

-- documents aren't loaded: out of memory, or by a fault
abbrev pub AreUnloaded : yaml_encoding_t → List ℕ → yaml_encoding_t → List ℕ
    → yaml_side_t × yaml_fault_t → Type 0
AreUnloaded a_from a b_from b f = IsSideShort a_from a f.0 (fault_of f.1)
    ⊎ IsSideUnloaded a_from a b_from b f.0 (fault_of f.1)

-- Of contents: what `IsDiff` says of them; and where they part, in what the documents differ.
abbrev pub AreContentDifferences : yaml_encoding_t → List ℕ → yaml_encoding_t → List ℕ
    → Option yaml_difference_t → yaml_differences_t → Type 0
AreContentDifferences a_from a b_from b None d = SameContent a_from a b_from b × TellsNothing d
AreContentDifferences a_from a b_from b (Some c) d = IsParting a_from a b_from b c
    × AreAllDifferences a_from a b_from b d

-- The answer to where inputs differ, by their documents or by their contents. These are refused as they are where they are
-- read, and where they part, as the documents are.
abbrev pub AreDifferences : yaml_encoding_t → List ℕ → yaml_encoding_t → List ℕ → Bool
    → Result yaml_differences_t (yaml_side_t × yaml_fault_t) → Type 0
AreDifferences a_from a b_from b true (Ok d) = AreAllDifferences a_from a b_from b d
    × (d.content ≡ None)
AreDifferences a_from a b_from b true (Err f) = AreUnloaded a_from a b_from b f
AreDifferences a_from a b_from b false (Ok d) = AreContentDifferences a_from a b_from b d.content d
AreDifferences a_from a b_from b false (Err f) = IsDiff a_from a b_from b (Err f)
    ⊎ ((c : yaml_difference_t) × IsParting a_from a b_from b c × AreUnloaded a_from a b_from b f)

-- ---- steps

-- documents were compared, or memory ran out
abbrev pub IsComparison : List Document → List Document
    → Result yaml_differences_t (yaml_side_t × yaml_fault_t) → Type 0
IsComparison first second (Ok d) = (d.first.items ≡ first) × (d.second.items ≡ second)
    × AreStreamDifferences 0 first second d.pairs.items d.told.items
    × ((d.told.items ≡ []) ↔ AreEqualStreams first second) × (d.content ≡ None)
IsComparison first second (Err f) = (f.0 ≡ First) × IsMemoryFault load_layers (fault_of f.1)

-- the documents of two inputs were compared, whose contents part at that place
abbrev pub ArePlaces : yaml_encoding_t → List ℕ → yaml_encoding_t → List ℕ → yaml_difference_t
    → Result yaml_differences_t (yaml_side_t × yaml_fault_t) → Type 0
ArePlaces a_from a b_from b c (Ok d) = AreAllDifferences a_from a b_from b d
    × (d.content ≡ Some c)
ArePlaces a_from a b_from b c (Err f) = AreUnloaded a_from a b_from b f
