-- How many tokens of a source are held.
use Rattle.std.proofs.Common.{◌≤◌, Bool, true, false, Option, Some, None, arith}
use Rattle.yaml_scan_model.specs.declared.fault.yaml_fault_t.{yaml_fault_t}
use Rattle.yaml_parse_states.specs.declared.source.SourceTokens.{SourceTokens}
use Rattle.yaml_parse_states.specs.SourceComing.{held_if}
use Rattle.yaml_parse_states.specs.Counts.{held_of}

held_at_most_if : (f : Option yaml_fault_t) (b : Bool) → held_if f b ≤ 1
held_at_most_if None true = omega (arith)
held_at_most_if None false = omega (arith)
held_at_most_if (Some f) b = omega (arith)

-- At most one token of a source is held.
pub held_at_most : {S : Type 0} (s : SourceTokens S) → held_of s ≤ 1
held_at_most s = held_at_most_if s.fault s.is_next
