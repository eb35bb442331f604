use Rattle.yaml_emit_scalars.proofs.LaysLemmas.{lays_both}
use Rattle.yaml_emit_core.proofs.Heads.{of_still}
use Rattle.yaml_emit_core.proofs.Closings.{flow_due, flow_none}
use Rattle.yaml_emit_core.proofs.openings.put_dashes.Goals as goal

pub put_line-requires-then-settings : goal.put_line-requires-then-settings
put_line-requires-then-settings c = of_still _ _ _ _ _ (of_still _ _ _ _ _ c.requires c.put_line.ensures) c.put_front.ensures

pub returns-then-settings : goal.returns-then-settings
returns-then-settings c = flow_due _ _ _ _ c.if-due.true (lays_both _ _ _ _ _ c.put_line.ensures (lays_both _ _ _ _ _ c.put_front.ensures (flow_due _ _ _ _ c.if-settings.true c.put_line-then-settings.ensures)))

pub returns-else-settings : goal.returns-else-settings
returns-else-settings c = flow_due _ _ _ _ c.if-due.true (lays_both _ _ _ _ _ c.put_line.ensures (lays_both _ _ _ _ _ c.put_front.ensures (flow_none _ _ _ c.if-settings.false)))

pub returns-else-due : goal.returns-else-due
returns-else-due c = flow_none _ _ _ c.if-due.false
