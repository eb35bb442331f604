use Rattle.std.proofs.Common.{◌≡◌, ◌-◌, ◌≤◌, false, length}
use Rattle.yaml_scan_types.specs.Classes.{any_below, is_break}
use Rattle.yaml_scan_types.proofs.breaks.rows_without.Given as goal

abbrev pub invariant-rows : goal.invariant-rows
invariant-rows l = (l.end ≤ length l.text) × (any_below l.end (is_break l.text) ≡ false)

abbrev pub decreases-rows : goal.decreases-rows
decreases-rows l = length l.text - l.end
