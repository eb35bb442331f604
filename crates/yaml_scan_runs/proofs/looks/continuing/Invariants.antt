use Rattle.std.proofs.Common.{◌≡◌, ◌-◌, ◌≤◌}
use Rattle.std.specs.List.{count_by, slice_range}
use Rattle.yaml_scan_runs.specs.Runs.{is_continuing}
use Rattle.yaml_scan_runs.proofs.looks.continuing.Given as goal

abbrev pub invariant-looks : goal.invariant-looks
invariant-looks l = (l.from ≤ l.at) × (l.at ≤ l.to) × (l.count ≡ count_by is_continuing (slice_range l.text l.from l.at))

abbrev pub decreases-looks : goal.decreases-looks
decreases-looks l = l.to - l.at

abbrev pub invariant-bytes : goal.invariant-bytes
invariant-bytes l = (l.from ≤ l.at) × (l.at ≤ l.to) × (l.count ≡ count_by is_continuing (slice_range l.text l.from l.at))

abbrev pub decreases-bytes : goal.decreases-bytes
decreases-bytes l = l.to - l.at
