use Rattle.std.proofs.Common.{◌≡◌, false}
use Rattle.yaml_scan_types.specs.Classes.{any_below, is_break}
use Rattle.yaml_scan_types.proofs.breaks.has_break.Given as goal

abbrev pub invariant-loop-i : goal.invariant-loop-i
invariant-loop-i l = any_below l.i (is_break l.text) ≡ false
