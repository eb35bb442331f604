use Rattle.std.proofs.Common.{ap, ◌==◌}
use Rattle.yaml_scan_types.proofs.class.IS_SPACE.Goals as goal

pub returns : goal.returns
returns c = ap (λ b. b == 32) c.byte_here.ensures
