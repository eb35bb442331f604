use Rattle.std.proofs.Common.{◌∙◌, ap}
use Rattle.yaml_emit_layout.specs.Text.{is_break}
use Rattle.yaml_emit_scalars.proofs.block.ends_in_break.Goals as goal

pub returns : goal.returns
returns c = c.is_break.ensures ∙ ap is_break c.last_of.ensures
