use Rattle.std.proofs.Common.{◌≡◌, ◌-◌, ◌≤◌, length}
use Rattle.yaml_scan_decode.specs.Steps.{outcome_at}
use Rattle.yaml_scan_decode.proofs.utf8.check_utf8.Given as goal

abbrev pub invariant-runs : goal.invariant-runs
invariant-runs l = outcome_at l.bytes l.start ≡ outcome_at l.bytes l.at

abbrev pub decreases-runs : goal.decreases-runs
decreases-runs l = length l.bytes - l.at

abbrev pub invariant-others : goal.invariant-others
invariant-others l = (outcome_at l.bytes l.start ≡ outcome_at l.bytes l.at) × (l.initial.at ≤ l.at)

abbrev pub decreases-others : goal.decreases-others
decreases-others l = length l.bytes - l.at
