use Rattle.std.proofs.Common.{◌<◌, ◌+◌, ◌∙◌, sym, arith}
use Rattle.std.proofs.lemmas.Result.{err_from_is_err_and}
use Rattle.yaml_scan_text.proofs.Words.{break_width}
use Rattle.yaml_scan_text.proofs.TextLemmas.{break_inside}
use Rattle.yaml_scan_text.proofs.HeadLemmas.{head_done, indent_bad, passed_break, passed_first, passed_indent}
use Rattle.yaml_scan_text.proofs.plain.pass_breaks.Goals as goal

pub overflow_add-line : goal.overflow_add-line
overflow_add-line c = let inside = break_inside c.args.text.now c.args.from c.requires.broke in omega arith

pub lines-init : goal.lines-init
lines-init c = rw c.break_width.ensures (passed_first c.args.margin c.args.text.now c.args.from c.requires.text c.requires.broke)

pub returns-in_err-at : goal.returns-in_err-at
returns-in_err-at c =
    let p = err_from_is_err_and c.from_residual.result c.from_residual.ensures.1 in
    rw (p.1, p.2) (indent_bad c.args.margin c.args.text.now c.args.from c.lines.line c.in_err-at.field-0.0 c.requires.text c.lines.invariant c.in_err-at.ensures)

pub returns-then-width-eq0 : goal.returns-then-width-eq0
returns-then-width-eq0 c =
    let (indent, blank) = c.in_ok-at.ensures in
    head_done c.args.margin c.args.text.now c.args.from c.lines.line c.in_ok-at.at (passed_indent c.args.margin c.args.text.now (c.args.from + break_width c.args.text.now c.args.from) c.lines.line c.in_ok-at.at c.requires.text c.lines.invariant indent) (sym c.break_width-width.ensures ∙ c.if-width-eq0.true) blank

pub overflow_add-line-in-lines : goal.overflow_add-line-in-lines
overflow_add-line-in-lines c =
    let some : 0 < break_width c.args.text.now c.in_ok-at.at = omega arith in
    let inside = break_inside c.args.text.now c.in_ok-at.at some in
    omega arith

pub lines-smaller : goal.lines-smaller
lines-smaller c =
    let some : 0 < break_width c.args.text.now c.in_ok-at.at = omega arith in
    let inside = break_inside c.args.text.now c.in_ok-at.at some in
    let (indent, blank) = c.in_ok-at.ensures in
    let forward = indent.forward in
    omega arith

pub lines-preserved : goal.lines-preserved
lines-preserved c =
    let some : 0 < break_width c.args.text.now c.in_ok-at.at = omega arith in
    let (indent, blank) = c.in_ok-at.ensures in
    let behind = c.args.from + break_width c.args.text.now c.args.from in
    rw c.break_width-width.ensures (passed_break c.args.margin c.args.text.now behind c.lines.line c.in_ok-at.at c.requires.text (passed_indent c.args.margin c.args.text.now behind c.lines.line c.in_ok-at.at c.requires.text c.lines.invariant indent) some)
