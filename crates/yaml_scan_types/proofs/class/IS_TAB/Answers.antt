use Rattle.std.proofs.Common.{ap, ◌==◌}
use Rattle.yaml_scan_types.proofs.class.IS_TAB.Goals as goal

pub returns : goal.returns
returns c = ap (λ b. b == 9) c.byte_here.ensures
