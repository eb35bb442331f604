use Rattle.yaml_emit_scalars.proofs.Folds.{lays_unless, lays_due}
use Rattle.yaml_emit_scalars.proofs.flow.put_char_if.Goals as goal

pub returns-then-due : goal.returns-then-due
returns-then-due c = lays_due _ _ _ _ c.if-due.true c.put_char.ensures

pub returns-else-due : goal.returns-else-due
returns-else-due c = lays_unless _ _ _ c.if-due.false
