use Rattle.std.proofs.Common.{◌+◌, ◌-◌, ◌≤◌, replicate}
use Rattle.yaml_scan_runs.specs.Placed.{Placed}
use Rattle.yaml_scan_runs.proofs.place.place_blanks.Given as goal

abbrev pub invariant-loop-next : goal.invariant-loop-next
invariant-loop-next l =
    (l.at ≤ l.next) × (l.next ≤ l.at + l.count + 16) × Placed l.fn.buf l.buf l.at (replicate (l.next - l.at) 32) l.next

abbrev pub decreases-loop-next : goal.decreases-loop-next
decreases-loop-next l = (l.at + l.count + 16) - l.next
