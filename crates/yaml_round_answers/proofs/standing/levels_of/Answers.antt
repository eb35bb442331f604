use Rattle.yaml_round_answers.proofs.Stands.{levels_start, levels_more, levels_all}
use Rattle.yaml_round_answers.proofs.standing.levels_of.Goals as goal

pub loop-level-init : goal.loop-level-init
loop-level-init c = levels_start _ _ c.new-listed.ensures.items

pub loop-level-preserved : goal.loop-level-preserved
loop-level-preserved c = levels_more _ _ _ _ _ _ c.loop-level-test.true c.loop-level.invariant c.in_ok-level.ensures c.in-Ok.ensures.items

pub returns : goal.returns
returns c = levels_all _ _ _ c.loop-level-test.false c.loop-level.invariant
