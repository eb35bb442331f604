use Rattle.std.proofs.Common.{◌∙◌}
use Rattle.std.specs.Str.{chars}
use Rattle.yaml_emit_scalars.proofs.Folds.{fold_lays}
use Rattle.yaml_emit_scalars.proofs.quoted.put_fold.Goals as goal

pub returns : goal.returns
returns c = fold_lays c.args.page (chars c.args.rest.now) _ _ _ _ _ _ c.requires.line_break (c.put_new_line.ensures.line_break ∙ c.requires.line_break) (rw c.first.ensures at c.fold_mark-mark.ensures.mark) c.put_new_line.ensures c.put_line.ensures
