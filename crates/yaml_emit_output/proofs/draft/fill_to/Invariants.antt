use Rattle.std.proofs.Common.{◌≡◌, ◌-◌, ◌≤◌, take, vec_len, vec_capacity}
use Rattle.yaml_emit_output.proofs.draft.fill_to.Given as goal

abbrev pub invariant-loop-bytes : goal.invariant-loop-bytes
invariant-loop-bytes l =
    (take (vec_len l.fn.bytes) l.bytes.items ≡ l.fn.bytes.items) × (vec_len l.fn.bytes ≤ vec_len l.bytes)
    × (vec_len l.bytes ≤ l.len) × (vec_capacity l.fn.bytes ≤ vec_capacity l.bytes)

abbrev pub decreases-loop-bytes : goal.decreases-loop-bytes
decreases-loop-bytes l = l.len - vec_len l.bytes
