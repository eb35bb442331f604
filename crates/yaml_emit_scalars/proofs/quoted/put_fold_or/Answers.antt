use Rattle.std.proofs.Common.{sym, ◌∙◌, ap}
use Rattle.std.specs.Str.{chars}
use Rattle.yaml_emit_layout.specs.Layout.{is_past, char}
use Rattle.yaml_emit_layout.specs.Quoted.{fold}
use Rattle.yaml_emit_scalars.proofs.Folds.{lays_chosen, lays_other}
use Rattle.yaml_emit_scalars.proofs.quoted.put_fold_or.Goals as goal

pub returns-then-is_past : goal.returns-then-is_past
returns-then-is_past c =
    let page = c.args.page in
    lays_chosen _ _ (is_past page.width) (fold page (chars c.args.rest.now)) (char c.args.c) (ap (λ w. is_past w c.args.draft.now.output.cursor) (sym c.requires.width) ∙ sym c.is_past.ensures ∙ c.if-is_past.true) c.put_fold.ensures

pub returns-else-is_past : goal.returns-else-is_past
returns-else-is_past c =
    let page = c.args.page in
    lays_other _ _ (is_past page.width) (fold page (chars c.args.rest.now)) (char c.args.c) (ap (λ w. is_past w c.args.draft.now.output.cursor) (sym c.requires.width) ∙ sym c.is_past.ensures ∙ c.if-is_past.false) c.put_char.ensures
