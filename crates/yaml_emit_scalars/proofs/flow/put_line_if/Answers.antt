use Rattle.yaml_emit_scalars.proofs.Folds.{lays_unless, lays_due, lays_line}
use Rattle.yaml_emit_scalars.proofs.flow.put_line_if.Goals as goal

pub returns-then-due : goal.returns-then-due
returns-then-due c = lays_due _ _ _ _ c.if-due.true (lays_line _ _ _ _ _ c.requires.line_break c.put_line.ensures)

pub returns-else-due : goal.returns-else-due
returns-else-due c = lays_unless _ _ _ c.if-due.false
