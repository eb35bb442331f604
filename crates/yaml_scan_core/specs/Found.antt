-- What is left to come of an input: whether anything is, and which fault a refusal reports.
use Rattle.std.specs.Prelude.{◌≡◌, ◌⊎◌, List, [], ◌∷◌, Option, Some, None}
use Rattle.yaml_scan_model.specs.scan_types.Faults.{Fault, IsMemoryFault, scan_layers}
use Rattle.yaml_scan_model.specs.scan_types.Tokens.{Token}
use Rattle.yaml_scan_history.specs.Remaining.{Remaining}

-- a token or a fault is to come
abbrev pub HasMore : List Token → Option Fault → Type 0
HasMore [] None = ⊥
HasMore [] (Some f) = Unit {0}
HasMore (t ∷ ts) fault = Unit {0}

-- A refusal reports the fault that is to come, where no token is, or that memory ran out.
abbrev pub IsTold : Remaining → Fault → Type 0
IsTold c f = IsMemoryFault scan_layers f ⊎ ((c.tokens ≡ []) × (c.fault ≡ Some f))
