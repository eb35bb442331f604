use Rattle.std.proofs.Common.{[], arith}
use Rattle.yaml_scan_core.proofs.place.Locator.before.Goals as goal

pub returns-else-self-place-clause-order : goal.returns-else-self-place-clause-order
returns-else-self-place-clause-order c = omega (arith, (c.new.ensures []).inside)
