use Rattle.std.proofs.Common.{◌-◌, length}
use Rattle.yaml_round_reading.specs.Escapes.{IsPlainTo}
use Rattle.yaml_round_reading.proofs.escapes.plain_end.Given as goal

abbrev pub invariant-bytes : goal.invariant-bytes
invariant-bytes l = record { plain : IsPlainTo l.text l.end }

abbrev pub decreases-bytes : goal.decreases-bytes
decreases-bytes l = length l.text - l.end
