-- Faults, their texts as bytes.
use Rattle.std.specs.Prelude.{ℕ, ℤ, pos, List, [], ◌∷◌, Option, None, option_map, codes, ◌≡◌, Result, Ok, Err, ◌⊎◌}
use Rattle.yaml_scan_types.specs.declared.name.yaml_error_type_t.{yaml_error_type_t}
use Rattle.yaml_scan_types.specs.declared.name.yaml_error_type_t.TheVariants.{YAML_MEMORY_ERROR}
use Rattle.yaml_scan_types.specs.declared.fault.yaml_origin_t.{yaml_origin_t}
use Rattle.yaml_scan_types.specs.declared.fault.yaml_origin_t.TheVariants as layer
use Rattle.yaml_scan_types.specs.declared.fault.yaml_fault_t.{yaml_fault_t}
use Rattle.yaml_scan_types.specs.declared.record.yaml_mark_t.{yaml_mark_t}
use Rattle.yaml_scan_types.specs.Tokens.{zero_mark}

-- a located fault
pub record Fault : Type 0 where
  pub kind : yaml_error_type_t
  pub problem : List ℕ
  pub offset : ℕ
  pub number : ℤ
  pub problem_mark : yaml_mark_t
  pub context : Option (List ℕ)
  pub context_mark : yaml_mark_t
  pub origin : yaml_origin_t

abbrev pub fault_of : yaml_fault_t → Fault
fault_of f = record {
  kind = f.kind;
  problem = f.problem.now;
  offset = f.offset;
  number = f.value;
  problem_mark = f.problem_mark;
  context = option_map (λ t. t.now) f.context;
  context_mark = f.context_mark;
  origin = f.origin;
}

-- a growth was refused in that layer
abbrev pub memory_fault : yaml_origin_t → Fault
memory_fault origin = record {
  kind = YAML_MEMORY_ERROR;
  problem = codes "out of memory";
  offset = 0;
  number = pos 0;
  problem_mark = zero_mark;
  context = None;
  context_mark = zero_mark;
  origin = origin;
}

-- The fault says, with nothing else in it, that memory ran out in one of these layers.
abbrev pub IsMemoryFault : List yaml_origin_t → Fault → Type 0
IsMemoryFault [] f = ⊥
IsMemoryFault (o ∷ []) f = f ≡ memory_fault o
IsMemoryFault (o ∷ (p ∷ os)) f = (f ≡ memory_fault o) ⊎ IsMemoryFault (p ∷ os) f

-- ---- the layers in which memory may run out

-- while tokens are scanned
abbrev pub scan_layers : List yaml_origin_t
scan_layers = layer.Scanner ∷ layer.Reader ∷ []

-- while events are parsed of them
abbrev pub parse_layers : List yaml_origin_t
parse_layers = layer.Parser ∷ scan_layers

-- while documents are loaded of those
abbrev pub load_layers : List yaml_origin_t
load_layers = layer.Loader ∷ parse_layers

-- while a text is laid out
abbrev pub emit_layers : List yaml_origin_t
emit_layers = layer.Emitter ∷ layer.Writer ∷ []

-- what a call answered, seen by `view`, is an answer by the relation, unless memory ran out in one of these layers
abbrev pub Answers : List yaml_origin_t → {X Y : Type 0} → (X → Y)
    → (Result Y Fault → Type 0) → Result X yaml_fault_t → Type 0
Answers layers view Is (Ok x) = Is (Ok (view x))
Answers layers view Is (Err f) = IsMemoryFault layers (fault_of f) ⊎ Is (Err (fault_of f))
