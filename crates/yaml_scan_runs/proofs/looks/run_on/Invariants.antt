use Rattle.std.proofs.Common.{◌≡◌, false, ◌-◌, ◌≤◌, length}
use Rattle.yaml_scan_runs.specs.Runs.{IsNarrow, is_stop}
use Rattle.yaml_scan_runs.proofs.Stops.{Passed}
use Rattle.yaml_scan_runs.proofs.looks.run_on.Given as goal

abbrev pub invariant-looks : goal.invariant-looks
invariant-looks g l =
    (l.from ≤ l.at) × (l.at ≤ length l.text) × Passed (is_stop l.stops) l.text l.from l.at
    × (IsNarrow l.seen 0 16 → IsNarrow l.text l.from l.at)

abbrev pub decreases-looks : goal.decreases-looks
decreases-looks g l = length l.text - l.at

abbrev pub invariant-bytes : goal.invariant-bytes
invariant-bytes g l =
    (l.from ≤ l.at) × (l.at ≤ length l.text) × Passed (is_stop l.stops) l.text l.from l.at
    × (l.wide ≡ false → (l.before ≡ false) × IsNarrow l.text l.from l.at)

abbrev pub decreases-bytes : goal.decreases-bytes
decreases-bytes g l = l.to - l.at
