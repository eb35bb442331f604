use Rattle.yaml_emit_layout.specs.Layout.{stay}
use Rattle.std.proofs.Common.{sym, ◌∙◌}
use Rattle.yaml_emit_layout.specs.Nodes.{dots}
use Rattle.yaml_emit_core.proofs.Closings.{flow_due, flow_none}
use Rattle.yaml_emit_core.proofs.Heads.{kept_lays, other_lays}
use Rattle.yaml_emit_scalars.proofs.LaysLemmas.{lays_same}
use Rattle.yaml_emit_core.proofs.openings.put_kept_dots.Goals as goal

pub returns-then-is_kept : goal.returns-then-is_kept
returns-then-is_kept c = flow_due _ _ _ _ c.if-due.true (kept_lays _ _ (dots c.args.settings.now) stay (sym c.is_kept.ensures ∙ c.if-is_kept.true) c.put_dots.ensures)

pub returns-else-is_kept : goal.returns-else-is_kept
returns-else-is_kept c = flow_due _ _ _ _ c.if-due.true (other_lays _ _ (dots c.args.settings.now) stay (sym c.is_kept.ensures ∙ c.if-is_kept.false) (lays_same _ stay))

pub returns-else-due : goal.returns-else-due
returns-else-due c = flow_none _ _ _ c.if-due.false
