use Rattle.std.proofs.Common.{◌-◌, length}
use Rattle.yaml_emit_scalars.specs.Classes.{NoneOf}
use Rattle.yaml_emit_scalars.proofs.class.first_of.Given as goal

abbrev pub invariant-rows : goal.invariant-rows
invariant-rows l = NoneOf l.classes l.text l.from l.at

abbrev pub decreases-rows : goal.decreases-rows
decreases-rows l = length l.text - l.at

abbrev pub invariant-bytes : goal.invariant-bytes
invariant-bytes l = NoneOf l.classes l.text l.from l.at

abbrev pub decreases-bytes : goal.decreases-bytes
decreases-bytes l = length l.text - l.at
