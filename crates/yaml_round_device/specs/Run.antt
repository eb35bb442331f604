-- What a run over devices does, by its answer.
use Rattle.std.specs.Prelude.{◌≡◌, ◌⊎◌, ℕ, ◌+◌, ◌<◌, ◌≤◌, Bool, true, List, take, length, Option, IfSome, Result, Ok, Err}
use Rattle.std.specs.Io.KnownBytes.{Keeps, Appends, Consumes, IsAtEnd}
use Rattle.yaml_scan_types.specs.declared.fault.yaml_origin_t.{yaml_origin_t}
use Rattle.yaml_scan_types.specs.declared.fault.yaml_origin_t.TheVariants.{Reader}
use Rattle.yaml_round_device.specs.Counts.{counted}
use Rattle.yaml_round_device.specs.declared.reading.Cause.{Cause}
use Rattle.yaml_round_device.specs.declared.reading.Cause.TheVariants as cause
use Rattle.yaml_round_device.specs.declared.run_fault.yaml_run_fault_t.{yaml_run_fault_t}
use Rattle.yaml_round_device.specs.declared.run_fault.yaml_run_fault_t.TheVariants.{Read, TooLong, Yaml, Write}
use Rattle.yaml_scan_types.specs.Faults.{Fault, fault_of, memory_fault, IsMemoryFault}

-- these bytes are all that the input gave up to its end, and no more than the limit
pub record GivesWholeInput (to_come rest : Option (List ℕ)) (limit : ℕ) (bytes : List ℕ) : Type 0
  where
    pub taken : Consumes to_come rest bytes
    pub ended : IsAtEnd rest
    pub within : length bytes ≤ limit

-- why the bytes of an input were not read to the end, before it is reported as a fault
abbrev pub IsCause : Option (List ℕ) → (failed_before failed_after : Bool) → ℕ → Cause → Type 0
IsCause to_come before after limit cause.Failed = after ≡ true
IsCause to_come before after limit cause.TooLong = (after ≡ before)
    × IfSome to_come (λ bytes. limit < length bytes)
IsCause to_come before after limit cause.NoMemory = after ≡ before

-- why the bytes of an input were not read to the end; unless it is reported, the input has not
-- failed by it
abbrev pub IsReadFault : Option (List ℕ) → (failed_before failed_after : Bool) → ℕ
    → yaml_run_fault_t → Type 0
IsReadFault to_come before after limit Read = after ≡ true
IsReadFault to_come before after limit TooLong = (after ≡ before)
    × IfSome to_come (λ bytes. limit < length bytes)
IsReadFault to_come before after limit (Yaml fault) = (after ≡ before)
    × (fault_of fault ≡ memory_fault Reader)
IsReadFault to_come before after limit (Write written) = ⊥

-- this fault says that cause
abbrev pub Tells : Cause → yaml_run_fault_t → Type 0
Tells cause.Failed Read = Unit {0}
Tells cause.TooLong TooLong = Unit {0}
Tells cause.NoMemory (Yaml fault) = fault_of fault ≡ memory_fault Reader
Tells why fault = ⊥

-- at most that many bytes were taken
abbrev pub TakesAtMost : (before after : ℕ) → ℕ → Type 0
TakesAtMost before after limit = (n : ℕ) × (n ≤ limit) × (after ≡ counted before n)

-- how many bytes were taken, before it is reported as a fault
abbrev pub CausedBy : (before after : ℕ) → ℕ → Cause → Type 0
CausedBy before after limit cause.TooLong = after ≡ counted before (limit + 1)
CausedBy before after limit cause.Failed = TakesAtMost before after limit
CausedBy before after limit cause.NoMemory = TakesAtMost before after limit

-- How many bytes were taken of an input that wasn't read to the end: of one that is too long one more than the limit, otherwise
-- at most the limit.
abbrev pub TakesFew : (before after : ℕ) → ℕ → yaml_run_fault_t → Type 0
TakesFew before after limit TooLong = after ≡ counted before (limit + 1)
TakesFew before after limit Read = TakesAtMost before after limit
TakesFew before after limit (Yaml fault) = TakesAtMost before after limit
TakesFew before after limit (Write written) = TakesAtMost before after limit

-- How many bytes a run took, by its answer.
abbrev pub RunTakes : {F : Type 0} → (before after : ℕ) → ℕ → Result F yaml_run_fault_t → Type 0
RunTakes before after limit (Err TooLong) = after ≡ counted before (limit + 1)
RunTakes before after limit (Err Read) = TakesAtMost before after limit
RunTakes before after limit (Err (Yaml fault)) = TakesAtMost before after limit
RunTakes before after limit (Err (Write written)) = TakesAtMost before after limit
RunTakes before after limit (Ok form) = TakesAtMost before after limit

-- what a run is to do: how many bytes it may read, in which layers memory may run out, and what answers an input
pub record Work (F : Type 0) : Type 1 where
  pub limit : ℕ
  pub layers : List yaml_origin_t
  pub IsAnswer : List ℕ → Result (List ℕ × F) Fault → Type 0

-- the bytes at a run's devices, where they are known: those that the input is to give, and those
-- that the output received
pub record Bytes : Type 0 where
  pub to_come : Option (List ℕ)
  pub received : Option (List ℕ)

-- which of a run's devices have failed
pub record Failures : Type 0 where
  pub input : Bool
  pub output : Bool

-- this is an answer to all that the input gave
pub record AnswersAll {F : Type 0} (work : Work F) (before after : Bytes)
    (said : Result (List ℕ × F) Fault) : Type 0 where
  pub input : List ℕ
  pub all : GivesWholeInput before.to_come after.to_come work.limit input
  pub answered : work.IsAnswer input said

-- what the output received, and why, by a run's answer; memory may run out in the layers of the work
abbrev pub Runs : {F : Type 0} → Work F → (before after : Bytes) → Result F yaml_run_fault_t
    → Type 0
Runs work before after (Ok form) = (text : List ℕ)
    × AnswersAll work before after (Ok (text, form))
    × Appends before.received after.received text
Runs {F} work before after (Err (Write written)) = (text : List ℕ) × (form : F)
    × AnswersAll work before after (Ok (text, form)) × (written ≤ length text)
    × Appends before.received after.received (take written text)
Runs work before after (Err (Yaml fault)) = Keeps before.received after.received
    × (IsMemoryFault work.layers (fault_of fault) ⊎ AnswersAll work before after
    (Err (fault_of fault)))
Runs work before after (Err TooLong) = Keeps before.received after.received
    × IfSome before.to_come (λ bytes. work.limit < length bytes)
Runs work before after (Err Read) = Keeps before.received after.received

-- which device has failed, by a run's answer: the one that it names, and no other
abbrev pub FailsBy : {F : Type 0} → (before after : Failures) → Result F yaml_run_fault_t → Type 0
FailsBy before after (Ok form) = (after.input ≡ before.input) × (after.output ≡ before.output)
FailsBy before after (Err Read) = (after.input ≡ true) × (after.output ≡ before.output)
FailsBy before after (Err TooLong) = (after.input ≡ before.input) × (after.output ≡ before.output)
FailsBy before after (Err (Yaml fault)) = (after.input ≡ before.input)
    × (after.output ≡ before.output)
FailsBy before after (Err (Write written)) = (after.input ≡ before.input) × (after.output ≡ true)

-- the refusal came before anything was written
abbrev pub IsBeforeWriting : yaml_run_fault_t → Type 0
IsBeforeWriting Read = Unit {0}
IsBeforeWriting TooLong = Unit {0}
IsBeforeWriting (Yaml fault) = Unit {0}
IsBeforeWriting (Write written) = ⊥
