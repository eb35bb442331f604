use Rattle.std.proofs.Common.{◌∙◌}
use Rattle.yaml_emit_scalars.proofs.Folds.{lays_breaks}
use Rattle.yaml_emit_scalars.proofs.flow.put_breaks.Goals as goal

pub returns : goal.returns
returns c = lays_breaks _ _ _ _ _ _ _ _ c.requires.line_break (c.put_new_line_if.ensures.line_break ∙ c.requires.line_break) c.put_new_line_if.ensures c.put_value_break.ensures
