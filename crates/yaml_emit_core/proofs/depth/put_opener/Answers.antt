use Rattle.yaml_emit_core.proofs.Closings.{flow_due, flow_none}
use Rattle.yaml_emit_core.proofs.depth.put_opener.Goals as goal

pub returns-then-flow : goal.returns-then-flow
returns-then-flow c = flow_due _ _ _ _ c.if-flow.true c.put_opener.ensures

pub returns-else-flow : goal.returns-else-flow
returns-else-flow c = flow_none _ _ _ c.if-flow.false
