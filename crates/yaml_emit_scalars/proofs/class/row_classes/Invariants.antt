use Rattle.std.proofs.Common.{◌+◌, ◌-◌, ◌≤◌}
use Rattle.yaml_emit_scalars.specs.Classes.{Covers}
use Rattle.yaml_emit_scalars.proofs.class.row_classes.Given as goal

abbrev pub invariant-bytes : goal.invariant-bytes
invariant-bytes l = (l.count ≤ 8) × Covers l.all l.text l.at (l.at + l.count)

abbrev pub decreases-bytes : goal.decreases-bytes
decreases-bytes l = 8 - l.count
