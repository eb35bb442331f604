-- What is said of inputs: that they are accepted, and that their contents are equal.
use Rattle.std.specs.Prelude.{◌⊎◌, ◌↔◌, IsTrue, ℕ, Bool, List, Result, Ok, Err}
use Rattle.yaml_parse.specs.declared.yaml_encoding_t.{yaml_encoding_t}
use Rattle.yaml_parse.specs.declared.yaml_encoding_t.TheVariants.{YAML_ANY_ENCODING}
use Rattle.yaml_parse.specs.declared.yaml_fault_t.{yaml_fault_t}
use Rattle.yaml_parse.specs.scan_types.Faults.{Fault, fault_of, IsMemoryFault, parse_layers}
use Rattle.yaml_round_content.specs.Said.{Document}
use Rattle.yaml_round_content.specs.Reading.{PlainReading}
use Rattle.yaml_round_reading.specs.declared.side.yaml_side_t.{yaml_side_t}
use Rattle.yaml_round_reading.specs.declared.side.yaml_side_t.TheVariants.{First, Second}

-- ---- one input

-- the input is accepted: its reading is a content
unfoldable pub IsRight : yaml_encoding_t → List ℕ → Type 0
IsRight from input = (c : List Document) × PlainReading from input (Ok c)

-- the input is refused: its reading is that fault
unfoldable pub IsFaulty : yaml_encoding_t → List ℕ → Fault → Type 0
IsFaulty from input fault = PlainReading from input (Err fault)

-- ---- two inputs

-- both are accepted, with one content
pub record SameContent (a_from : yaml_encoding_t) (a : List ℕ) (b_from : yaml_encoding_t)
    (b : List ℕ) : Type 0 where
  pub content : List Document
  pub first : PlainReading a_from a (Ok content)
  pub second : PlainReading b_from b (Ok content)

-- both are accepted, and `same` says whether their contents are equal
pub record IsCompared (a_from : yaml_encoding_t) (a : List ℕ) (b_from : yaml_encoding_t)
    (b : List ℕ) (same : Bool) : Type 0 where
  pub first : IsRight a_from a
  pub second : IsRight b_from b
  pub told : IsTrue same ↔ SameContent a_from a b_from b

-- the first fault: that of the second input only where the first is accepted
abbrev pub IsSideFaulty : yaml_encoding_t → List ℕ → yaml_encoding_t → List ℕ → yaml_side_t → Fault
    → Type 0
IsSideFaulty a_from a b_from b First fault = IsFaulty a_from a fault
IsSideFaulty a_from a b_from b Second fault = IsRight a_from a × IsFaulty b_from b fault

-- memory ran out: reported of the second input only where the first is accepted
abbrev pub IsSideStarved : yaml_encoding_t → List ℕ → yaml_side_t → Fault → Type 0
IsSideStarved a_from a First fault = IsMemoryFault parse_layers fault
IsSideStarved a_from a Second fault = IsRight a_from a × IsMemoryFault parse_layers fault

-- the answer of a comparison
abbrev pub IsSame : yaml_encoding_t → List ℕ → yaml_encoding_t → List ℕ
    → Result Bool (yaml_side_t × yaml_fault_t) → Type 0
IsSame a_from a b_from b (Ok same) = IsCompared a_from a b_from b same
IsSame a_from a b_from b (Err f) = IsSideStarved a_from a f.0 (fault_of f.1)
    ⊎ IsSideFaulty a_from a b_from b f.0 (fault_of f.1)

-- ---- a text that is read back

-- The text, read as its byte order mark shows, is accepted and has the input's content.
abbrev pub ReadsBack : yaml_encoding_t → List ℕ → List ℕ → Type 0
ReadsBack from input text = SameContent from input YAML_ANY_ENCODING text
