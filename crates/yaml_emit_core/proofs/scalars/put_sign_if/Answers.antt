use Rattle.yaml_emit_core.proofs.Closings.{flow_due, flow_none}
use Rattle.yaml_emit_core.proofs.scalars.put_sign_if.Goals as goal

pub returns-then-marked : goal.returns-then-marked
returns-then-marked c = flow_due _ _ _ _ c.if-marked.true c.put_front.ensures

pub returns-else-marked : goal.returns-else-marked
returns-else-marked c = flow_none _ _ _ c.if-marked.false
