-- What a call's answer says of the emitter's fault.
use Rattle.std.proofs.Common.{◌≡◌, ◌≢◌, ◌∙◌, sym, Option, Some, None, Result, Ok, Err}
use Rattle.std.proofs.lemmas.Bool.{false≢true}
use Rattle.std.specs.Prelude.{OnOk, OnErr}
use Rattle.yaml_emit_machine.specs.scan_types.Faults.{Fault}
use Rattle.yaml_emit_machine.specs.scan_model.declared.fault.yaml_fault_t.{yaml_fault_t}
use Rattle.yaml_emit_machine.specs.Emitter.{Emitter, Answers}
use Rattle.yaml_emit_machine.specs.Dumping.{OpensStream}

pub on_ok : (X : Type 0) (fault : Option Fault) (r : Result (Unit {0}) yaml_fault_t)
    → Answers fault r → (fault ≡ None → X) → OnOk r X
on_ok X fault (Ok u) a k = k a
on_ok X fault (Err f) a k = tt

pub on_err : (X : Type 0) (fault : Option Fault) (r : Result (Unit {0}) yaml_fault_t)
    → Answers fault r → (fault ≢ None → X) → OnErr r X
on_err X fault (Ok u) a k = tt
on_err X fault (Err f) a k = k (λ none. cc)

pub never : (X : Type 0) (fault : Option Fault) (f : Fault) → fault ≡ None → fault ≡ Some f → X
never X fault f none some = absurd (cc)

-- After a fault a dump opens nothing.
pub opens_nothing : (e : Emitter) (f : Fault) → e.fault ≡ Some f → OpensStream e e
opens_nothing e f some = record {
  kept = λ on. on;
  right = λ off on. absurd (false≢true (sym off ∙ on));
  alone = λ none off. never _ e.fault f none some;
  memory = λ none off. never _ e.fault f none some;
}
