-- What is to come of a source whose next token may be held.
use Rattle.std.specs.Prelude.{◌≡◌, ℕ, Bool, true, false, List, [], ◌∷◌, Option, Some, None}
use Rattle.yaml_scan_model.specs.declared.fault.yaml_fault_t.{yaml_fault_t}
use Rattle.yaml_scan_model.specs.scan_types.Tokens.{Token}
use Rattle.yaml_scan_model.specs.scan_types.Faults.{Fault, fault_of}

-- the token that is held, if it is next, and the others; nothing after a fault that was reported
abbrev pub coming : Option yaml_fault_t → Bool → Token → List Token → List Token
coming (Some f) b t ts = []
coming None true t ts = t ∷ ts
coming None false t ts = ts

abbrev pub fault_coming : Option yaml_fault_t → Option Fault → Option Fault
fault_coming None f = f
fault_coming (Some told) f = Some (fault_of told)

-- the fault was reported, or a token is held
abbrev pub Tells : Option yaml_fault_t → Bool → Bool → Type 0
Tells (Some f) is_next true = Unit {0}
Tells None is_next false = is_next ≡ true
Tells _ is_next b = ⊥

-- what is to come of the source itself: nothing after its fault
abbrev pub left_of : Option yaml_fault_t → List Token → List Token
left_of None ts = ts
left_of (Some f) ts = []

-- ---- how many tokens

-- a token is held that is still to be taken
abbrev pub held_if : Option yaml_fault_t → Bool → ℕ
held_if None true = 1
held_if _ b = 0
