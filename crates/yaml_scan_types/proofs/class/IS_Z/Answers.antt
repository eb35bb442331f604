use Rattle.std.proofs.Common.{ap, ◌==◌}
use Rattle.yaml_scan_types.proofs.class.IS_Z.Goals as goal

pub returns : goal.returns
returns c = ap (λ b. b == 0) c.byte_here.ensures
