use Rattle.std.proofs.Common.{sym, ◌∙◌, ap}
use Rattle.yaml_emit_layout.specs.Layout.{is_past, char, line}
use Rattle.yaml_emit_scalars.proofs.Folds.{lays_chosen, lays_other, lays_line}
use Rattle.yaml_emit_scalars.proofs.flow.put_cut.Goals as goal

pub returns-then-is_past : goal.returns-then-is_past
returns-then-is_past c =
    let page = c.args.page in
    lays_chosen _ _ (is_past page.width) (line page.line_break page.indentation) (char c.args.c) (ap (λ w. is_past w c.args.draft.now.output.cursor) (sym c.requires.width) ∙ sym c.is_past.ensures ∙ c.if-is_past.true) (lays_line _ _ _ _ _ c.requires.line_break c.put_line.ensures)

pub returns-else-is_past : goal.returns-else-is_past
returns-else-is_past c =
    let page = c.args.page in
    lays_other _ _ (is_past page.width) (line page.line_break page.indentation) (char c.args.c) (ap (λ w. is_past w c.args.draft.now.output.cursor) (sym c.requires.width) ∙ sym c.is_past.ensures ∙ c.if-is_past.false) c.put_char.ensures
