use Rattle.std.proofs.Common.{refl, arith}
use Rattle.yaml_scan_types.specs.Classes.{any_below}
use Rattle.yaml_scan_types.proofs.breaks.rows_without.Goals as goal

pub rows-init : goal.rows-init
unfolding any_below
rows-init c = (omega arith, refl)
