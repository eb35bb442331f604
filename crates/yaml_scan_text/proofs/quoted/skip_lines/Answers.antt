use Rattle.std.proofs.Common.{◌<◌, ◌+◌, ◌∙◌, sym, arith}
use Rattle.yaml_scan_text.proofs.Words.{break_width}
use Rattle.yaml_scan_text.proofs.TextLemmas.{break_inside}
use Rattle.yaml_scan_text.proofs.HeadLemmas.{lines_done, lines_further, lines_next, passed_first}
use Rattle.yaml_scan_text.proofs.quoted.skip_lines.Goals as goal

pub overflow_add-line : goal.overflow_add-line
overflow_add-line c = let inside = break_inside c.args.text.now c.args.from c.requires.broke in omega arith

pub lines-init : goal.lines-init
lines-init c = rw c.break_width.ensures (passed_first 0 c.args.text.now c.args.from c.requires.text c.requires.broke)

pub returns-then-width-eq0 : goal.returns-then-width-eq0
returns-then-width-eq0 c = lines_done c.args.text.now c.args.from c.lines.line c.skip_blanks-at.result c.requires.text c.lines.invariant c.skip_blanks-at.ensures (sym c.break_width-width.ensures ∙ c.if-width-eq0.true)

pub overflow_add-line-in-lines : goal.overflow_add-line-in-lines
overflow_add-line-in-lines c =
    let some : 0 < break_width c.args.text.now c.skip_blanks-at.result = omega arith in
    let further = lines_further c.args.text.now c.lines.line c.skip_blanks-at.result c.skip_blanks-at.ensures some in
    omega arith

pub lines-smaller : goal.lines-smaller
lines-smaller c =
    let some : 0 < break_width c.args.text.now c.skip_blanks-at.result = omega arith in
    let further = lines_further c.args.text.now c.lines.line c.skip_blanks-at.result c.skip_blanks-at.ensures some in
    omega arith

pub lines-preserved : goal.lines-preserved
lines-preserved c =
    let some : 0 < break_width c.args.text.now c.skip_blanks-at.result = omega arith in
    rw c.break_width-width.ensures (lines_next c.args.text.now (c.args.from + break_width c.args.text.now c.args.from) c.lines.line c.skip_blanks-at.result c.requires.text c.lines.invariant c.skip_blanks-at.ensures some)
