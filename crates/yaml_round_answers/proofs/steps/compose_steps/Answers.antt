use Rattle.yaml_round_answers.specs.Composing.{sketch_of}
use Rattle.yaml_round_answers.proofs.Composes.{drawn_more, drawn_stops, drawn_end, drawn_none, drawn_some}
use Rattle.yaml_round_answers.proofs.steps.compose_steps.Goals as goal

pub returns-in-None : goal.returns-in-None
returns-in-None c = drawn_stops c.args.bytes.now c.args.steps.now _ _ (sketch_of c.loop-step.sketching) _ _ c.loop-step-test.true c.loop-step.invariant (drawn_none _ _ _ c.in_ok-draw.ensures c.in-None.is)

pub loop-step-preserved : goal.loop-step-preserved
loop-step-preserved c = drawn_more c.args.bytes.now c.args.steps.now _ _ (sketch_of c.loop-step.sketching) (sketch_of c.draw.new.self) _ _ _ _ c.loop-step-test.true c.loop-step.invariant (drawn_some _ _ _ _ c.in_ok-draw.ensures c.in-Some.is) c.in_ok-push-in-Some.ensures.items

pub returns : goal.returns
returns c = drawn_end c.args.bytes.now c.args.steps.now _ (sketch_of c.loop-step.sketching) _ _ c.loop-step-test.false c.loop-step.invariant
