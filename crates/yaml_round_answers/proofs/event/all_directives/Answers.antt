use Rattle.yaml_round_answers.proofs.Building.{put_more, put_all}
use Rattle.yaml_round_answers.proofs.event.all_directives.Goals as goal

pub loop-directive-preserved : goal.loop-directive-preserved
loop-directive-preserved c = put_more _ _ _ _ _ _ _ c.loop-directive-test.true c.loop-directive.invariant c.in_ok-directive.ensures c.in-Ok.ensures.items

pub returns : goal.returns
returns c = put_all _ _ _ _ c.loop-directive-test.false c.loop-directive.invariant
