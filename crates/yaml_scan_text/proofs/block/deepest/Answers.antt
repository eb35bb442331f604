use Rattle.std.proofs.Common.{◌≢◌, ◌<◌, ◌∙◌, sym, arith}
use Rattle.yaml_scan_text.proofs.Words.{byte, break_width}
use Rattle.yaml_scan_text.proofs.BlockLemmas.{depth_first, depth_next, depth_end, depth_bad, depth_smaller, past_spaces-le}
use Rattle.yaml_scan_text.proofs.block.deepest.Goals as goal

pub lines-init : goal.lines-init
lines-init c = depth_first c.args.text.now c.args.from c.args.least c.requires

pub returns-then-byte-eq9 : goal.returns-then-byte-eq9
returns-then-byte-eq9 c =
    depth_bad c.args.text.now c.args.from c.args.least c.lines.at c.lines.column c.skip_spaces-end.result c.wrong_at.result c.lines.invariant c.skip_spaces-end.ensures (sym c.byte.ensures ∙ c.if-byte-eq9.true) c.wrong_at.ensures

pub overflow_sub-end : goal.overflow_sub-end
overflow_sub-end c = rw c.skip_spaces-end.ensures (past_spaces-le c.args.text.now c.lines.at)

pub returns-then-width-eq0 : goal.returns-then-width-eq0
returns-then-width-eq0 c =
    let other : byte c.args.text.now c.skip_spaces-end.result ≢ 9 = rw c.byte.ensures at c.if-byte-eq9.false in
    rw c.max-column.ensures (depth_end c.args.text.now c.args.from c.args.least c.lines.at c.lines.column c.skip_spaces-end.result c.lines.invariant c.skip_spaces-end.ensures other (sym c.break_width-width.ensures ∙ c.if-width-eq0.true))

pub overflow_add-at : goal.overflow_add-at
overflow_add-at c =
    let some : 0 < break_width c.args.text.now c.skip_spaces-end.result = omega arith in
    let smaller = depth_smaller c.args.text.now c.args.from c.args.least c.lines.at c.lines.column c.skip_spaces-end.result c.lines.invariant c.skip_spaces-end.ensures some in
    omega arith

pub lines-smaller : goal.lines-smaller
lines-smaller c =
    let some : 0 < break_width c.args.text.now c.skip_spaces-end.result = omega arith in
    let smaller = depth_smaller c.args.text.now c.args.from c.args.least c.lines.at c.lines.column c.skip_spaces-end.result c.lines.invariant c.skip_spaces-end.ensures some in
    omega arith

pub lines-preserved : goal.lines-preserved
lines-preserved c =
    let other : byte c.args.text.now c.skip_spaces-end.result ≢ 9 = rw c.byte.ensures at c.if-byte-eq9.false in
    let some : 0 < break_width c.args.text.now c.skip_spaces-end.result = omega arith in
    rw (c.max-column.ensures, c.break_width-width.ensures) (depth_next c.args.text.now c.args.from c.args.least c.lines.at c.lines.column c.skip_spaces-end.result c.lines.invariant c.skip_spaces-end.ensures other some)
