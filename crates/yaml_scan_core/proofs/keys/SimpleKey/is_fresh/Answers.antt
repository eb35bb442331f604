use Rattle.std.proofs.Common.{arith}
use Rattle.std.proofs.lemmas.Bool.Decides.{nat_tests}
use Rattle.yaml_scan_core.proofs.LinesLemmas.{fresh_there}
use Rattle.yaml_scan_core.proofs.keys.SimpleKey.is_fresh.Goals as goal

pub returns-then-line-self : goal.returns-then-line-self
returns-then-line-self c = λ text l. let e = fresh_there text c.args.self.now c.args.at c.args.line l in grind (arith, nat_tests)

pub returns-else-line-self : goal.returns-else-line-self
returns-else-line-self c = λ text l. let e = fresh_there text c.args.self.now c.args.at c.args.line l in grind (arith, nat_tests)
