use Rattle.std.proofs.Common.{◌≡◌, ◌+◌, ◌-◌, ◌≤◌, true, false}
use Rattle.yaml_scan_types.specs.Classes.{any_below, is_break}
use Rattle.yaml_scan_types.proofs.breaks.row_tells_none.Given as goal

abbrev pub invariant-bytes : goal.invariant-bytes
invariant-bytes l = (l.count ≤ 32) × (l.all ≡ true → any_below l.at (is_break l.text) ≡ false → any_below (l.at + l.count) (is_break l.text) ≡ false)

abbrev pub decreases-bytes : goal.decreases-bytes
decreases-bytes l = 32 - l.count
