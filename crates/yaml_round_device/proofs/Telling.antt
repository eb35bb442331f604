-- What a cause says is said of the fault that reports it.
use Rattle.std.proofs.Common.{ℕ, List, Option, Bool}
use Rattle.yaml_round_device.specs.declared.reading.Cause.{Cause}
use Rattle.yaml_round_device.specs.declared.reading.Cause.TheVariants as cause
use Rattle.yaml_round_device.specs.declared.run_fault.yaml_run_fault_t.{yaml_run_fault_t}
use Rattle.yaml_round_device.specs.declared.run_fault.yaml_run_fault_t.TheVariants.{Read, TooLong, Yaml}
use Rattle.yaml_round_device.specs.Run.{IsCause, IsReadFault, CausedBy, TakesFew, Tells}

-- used by `yaml_read_all`: why an input was not read
pub told_cause : (to_come : Option (List ℕ)) (before after : Bool) (limit : ℕ) (why : Cause)
    (fault : yaml_run_fault_t) → Tells why fault → IsCause to_come before after limit why
    → IsReadFault to_come before after limit fault
told_cause to_come before after limit cause.Failed Read t h = h
told_cause to_come before after limit cause.TooLong TooLong t h = h
told_cause to_come before after limit cause.NoMemory (Yaml fault) t h = (h, t)
told_cause to_come before after limit _ _ t h = absurd t

-- likewise for how many bytes were taken
pub told_few : (before after limit : ℕ) (why : Cause) (fault : yaml_run_fault_t) → Tells why fault
    → CausedBy before after limit why → TakesFew before after limit fault
told_few before after limit cause.Failed Read t h = h
told_few before after limit cause.TooLong TooLong t h = h
told_few before after limit cause.NoMemory (Yaml fault) t h = h
told_few before after limit _ _ t h = absurd t
