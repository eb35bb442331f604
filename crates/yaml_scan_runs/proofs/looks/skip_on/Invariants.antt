use Rattle.std.proofs.Common.{◌-◌, ◌≤◌, length}
use Rattle.yaml_scan_runs.specs.Runs.{is_neither}
use Rattle.yaml_scan_runs.proofs.Stops.{Passed}
use Rattle.yaml_scan_runs.proofs.looks.skip_on.Given as goal

abbrev pub invariant-looks : goal.invariant-looks
invariant-looks l = (l.from ≤ l.at) × (l.at ≤ length l.text) × Passed (is_neither l.a l.b) l.text l.from l.at

abbrev pub decreases-looks : goal.decreases-looks
decreases-looks l = length l.text - l.at

abbrev pub invariant-bytes : goal.invariant-bytes
invariant-bytes l = (l.from ≤ l.at) × (l.at ≤ length l.text) × Passed (is_neither l.a l.b) l.text l.from l.at

abbrev pub decreases-bytes : goal.decreases-bytes
decreases-bytes l = length l.text - l.at
