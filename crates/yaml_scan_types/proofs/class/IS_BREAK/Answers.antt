use Rattle.std.proofs.Common.{ap, nat_lt}
use Rattle.yaml_scan_types.proofs.class.IS_BREAK.Goals as goal

pub returns : goal.returns
returns c = ap (λ n. nat_lt 0 n) c.break_width_of.ensures
