-- The error that a fault is.
use Rattle.std.specs.Prelude.{◌≡◌}
use Rattle.yaml_scan.specs.declared.yaml_fault_t.{yaml_fault_t}
use Rattle.yaml_scan.specs.declared.yaml_error_type_t.TheVariants.{YAML_MEMORY_ERROR}
use Rattle.yaml_cli_lookup.specs.declared.error.LookupError.{LookupError}
use Rattle.yaml_cli_lookup.specs.declared.error.LookupError.TheVariants.{Unreadable, NotAMapping, OutOfMemory, CopyRefused}

-- out of memory has an error of its own
abbrev pub IsErrorOf : yaml_fault_t → LookupError → Type 0
IsErrorOf f (Unreadable g) = (g ≡ f) × ¬ (f.kind ≡ YAML_MEMORY_ERROR)
IsErrorOf f NotAMapping = ⊥
IsErrorOf f (OutOfMemory g) = (g ≡ f) × (f.kind ≡ YAML_MEMORY_ERROR)
IsErrorOf f CopyRefused = ⊥
