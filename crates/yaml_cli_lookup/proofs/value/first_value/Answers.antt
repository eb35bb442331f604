-- The first value is that of the first pair that gives one.
use Rattle.yaml_cli_lookup.proofs.Pairs.{value_found, value_more, value_none}
use Rattle.yaml_cli_lookup.proofs.value.first_value.Goals as goal

pub returns-in-Some : goal.returns-in-Some
returns-in-Some c = value_found _ _ _ _ _ _ c.loop-i-test.true c.loop-i.invariant c.in-Some.ensures

pub loop-i-preserved : goal.loop-i-preserved
loop-i-preserved c = value_more _ _ _ _ _ c.loop-i-test.true c.loop-i.invariant c.in_default.ensures

pub returns : goal.returns
returns c = value_none _ _ _ _ c.loop-i-test.false c.loop-i.invariant
