use Rattle.std.proofs.Common.{arith, rules}
use Rattle.yaml_scan_core.proofs.MarginsLemmas.{close_none, close_some, close_more, close_all}
use Rattle.yaml_scan_core.proofs.levels.Levels.close_down_to.Goals as goal

pub levels-init : goal.levels-init
levels-init c = record { left = λ ls a. close_none _ _ ls a; fewer = omega arith }

pub returns-in_default-clause-left : goal.returns-in_default-clause-left
returns-in_default-clause-left c = λ ls a. absurd (close_some _ _ _ ls (c.levels.invariant.left ls a) c.levels-test.true (search rules))

pub returns-in_default-clause-count : goal.returns-in_default-clause-count
returns-in_default-clause-count c = λ ls a. absurd (close_some _ _ _ ls (c.levels.invariant.left ls a) c.levels-test.true (search rules))

pub levels-preserved : goal.levels-preserved
levels-preserved c = record {
  left = λ ls a. close_more _ _ _ _ ls (c.levels.invariant.left ls a) c.levels-test.true c.in-Some.ensures.items;
  fewer = omega (arith, c.in-Some.ensures.cases, c.levels.invariant.fewer);
}

pub returns-clause-left : goal.returns-clause-left
returns-clause-left c = λ ls a. (close_all _ _ _ ls (c.levels.invariant.left ls a) c.levels-test.false).0

pub returns-clause-count : goal.returns-clause-count
returns-clause-count c = λ ls a. (close_all _ _ _ ls (c.levels.invariant.left ls a) c.levels-test.false).1
