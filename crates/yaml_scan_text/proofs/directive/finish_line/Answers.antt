use Rattle.std.proofs.Common.{◌∙◌, sym, inl, inr, arith}
use Rattle.yaml_scan_text.proofs.TextLemmas.{break_within}
use Rattle.yaml_scan_text.proofs.DirectiveLemmas.{line_read, line_same_there, line_wrong}
use Rattle.yaml_scan_text.proofs.directive.finish_line.Goals as goal

pub returns-then-is_text : goal.returns-then-is_text
returns-then-is_text c = line_wrong c.args.text.now c.args.from c.comment_end-end.result c.wrong_at.result (rw c.skip_blanks.ensures at c.comment_end-end.ensures) (sym c.is_text.ensures ∙ c.if-is_text.true) c.wrong_at.ensures

pub overflow_add-result : goal.overflow_add-result
overflow_add-result c =
    elim (break_within c.args.text.now c.comment_end-end.result) [
      | inl z ↦ omega arith
      | inr l ↦ omega arith
    ]

pub line_behind-requires : goal.line_behind-requires
line_behind-requires c = line_same_there c.args.text.now c.args.from c.comment_end-end.result c.args.line c.requires.inside c.requires.whole c.requires.line (rw c.skip_blanks.ensures at c.comment_end-end.ensures)

pub returns : goal.returns
returns c =
    rw c.break_width.ensures (line_read c.args.text.now c.args.from c.comment_end-end.result c.line_behind.result c.requires.inside c.requires.whole (rw c.skip_blanks.ensures at c.comment_end-end.ensures) (sym c.is_text.ensures ∙ c.if-is_text.false) c.line_behind.ensures)
