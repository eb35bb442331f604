use Rattle.std.proofs.Common.{◌+◌, ◌-◌, ◌≤◌, length, take}
use Rattle.yaml_scan_runs.specs.Placed.{Placed}
use Rattle.yaml_scan_runs.proofs.place.place_rows.Given as goal

abbrev pub invariant-loop-done : goal.invariant-loop-done
invariant-loop-done l = (l.done ≤ length l.text) × Placed l.fn.buf l.buf l.at (take l.done l.text) (l.at + l.done)

abbrev pub decreases-loop-done : goal.decreases-loop-done
decreases-loop-done l = length l.text - l.done
