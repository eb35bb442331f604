use Rattle.std.proofs.Common.{refl}
use Rattle.yaml_scan_types.proofs.memory.yaml_memory_fault.Goals as goal

pub returns : goal.returns
returns c = refl
