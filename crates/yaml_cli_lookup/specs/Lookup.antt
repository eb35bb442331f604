-- What the calls answer of the first document.
use Rattle.std.specs.Prelude.{◌≡◌, ◌⊎◌, ℕ, List, Option, option_map, is_some, Vec, Result, Ok, Err, true, false}
use Rattle.std.specs.Global.{Global}
use Rattle.yaml_scan.specs.declared.yaml_error_type_t.TheVariants.{YAML_MEMORY_ERROR}
use Rattle.yaml_scan.specs.scan_types.Faults.{Fault, fault_of, IsMemoryFault, load_layers}
use Rattle.yaml_parse.specs.Documents.{Document}
use Rattle.yaml_cli_lookup.specs.declared.error.LookupError.{LookupError}
use Rattle.yaml_cli_lookup.specs.declared.error.LookupError.TheVariants.{Unreadable, NotAMapping, OutOfMemory, CopyRefused}
use Rattle.yaml_cli_lookup.specs.Values.{has_mapping, value_of}

-- it is the first document, and its root is a mapping
pub record IsFirstMapping (First : Result Document Fault → Type 0) (d : Document) : Type 0 where
  pub first : First (Ok d)
  pub mapping : has_mapping d ≡ true

-- When each error of the first document comes: the fault is that of the input; there is a document, and its root isn't a
-- mapping; the fault is one of memory, in a layer that the load is built on.
abbrev pub IsDue : (Result Document Fault → Type 0) → LookupError → Type 0
IsDue First (Unreadable f) = First (Err (fault_of f))
IsDue First NotAMapping = (d : Document) × First (Ok d) × (has_mapping d ≡ false)
IsDue First (OutOfMemory f) = ((fault_of f).kind ≡ YAML_MEMORY_ERROR)
    × (IsMemoryFault load_layers (fault_of f) ⊎ First (Err (fault_of f)))
IsDue First CopyRefused = ⊥

-- When each error comes, for a value: its copy is refused only where the first document's root has
-- one under the key.
abbrev pub IsDueOf : (Result Document Fault → Type 0) → List ℕ → LookupError → Type 0
IsDueOf First key CopyRefused = (d : Document) × IsFirstMapping First d
    × (is_some (value_of d key) ≡ true)
IsDueOf First key (Unreadable f) = IsDue First (Unreadable f)
IsDueOf First key NotAMapping = IsDue First NotAMapping
IsDueOf First key (OutOfMemory f) = IsDue First (OutOfMemory f)

abbrev pub bytes_of : Option (Vec ℕ Global) → Option (List ℕ)
bytes_of v = option_map (λ t. t.items) v

-- what the first document's root gives the key
pub record IsValueFound (First : Result Document Fault → Type 0) (key : List ℕ)
    (found : Option (Vec ℕ Global)) : Type 0 where
  pub document : Document
  pub loaded : IsFirstMapping First document
  pub value : bytes_of found ≡ value_of document key
