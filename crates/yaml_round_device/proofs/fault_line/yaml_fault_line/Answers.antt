-- The line, or out of memory. Not searched for, so that a wrong answer fails by its type, at once.
use Rattle.std.proofs.Common.{ap, ◌∙◌}
use Rattle.yaml_round_device.proofs.fault_line.yaml_fault_line.Goals as goal

pub returns-in-Ok-clause-text : goal.returns-in-Ok-clause-text
returns-in-Ok-clause-text c = ap (λ v. v.items) c.into_bytes.ensures.value ∙ c.in-Ok.ensures

pub returns-in-Err-clause-memory : goal.returns-in-Err-clause-memory
returns-in-Err-clause-memory c = c.yaml_memory_fault.ensures
