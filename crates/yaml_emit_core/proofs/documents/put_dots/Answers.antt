use Rattle.std.proofs.Common.{◌∙◌}
use Rattle.yaml_emit_scalars.proofs.LaysLemmas.{lays_both}
use Rattle.yaml_emit_core.proofs.documents.put_dots.Goals as goal

pub put_line-requires : goal.put_line-requires
put_line-requires c = record { line_break = c.put_front.ensures.line_break ∙ c.requires.line_break; width = c.put_front.ensures.width ∙ c.requires.width }

pub returns : goal.returns
returns c = lays_both _ _ _ _ _ c.put_front.ensures c.put_line.ensures
