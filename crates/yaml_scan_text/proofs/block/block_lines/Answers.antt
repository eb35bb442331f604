use Rattle.std.proofs.Common.{◌==◌, arith}
use Rattle.std.proofs.lemmas.Result.{err_from_is_err_and}
use Rattle.yaml_scan_text.proofs.Words.{byte}
use Rattle.yaml_scan_text.specs.declared.refusal.Refusal.TheVariants as refusals
use Rattle.yaml_scan_text.proofs.StackLemmas.{empty_further, text_end, spaces_seat, stacks_first, stacks_empty, stacks_text, stacks_stop, stacks_tab, text_further, text_line}
use Rattle.yaml_scan_text.proofs.block.block_lines.Goals as goal

pub lines-init : goal.lines-init
lines-init c = stacks_first (byte c.args.text.now c.args.start == 62) c.args.header.chomp c.args.column c.args.text.now c.args.start c.args.arena.now.items c.args.header.line c.args.header.at c.requires.start c.requires.seat c.requires.first

pub seen_at-requires-clause-column : goal.seen_at-requires-clause-column
seen_at-requires-clause-column c = (spaces_seat c.args.text.now c.lines.stack.line c.lines.stack.at c.past_indent-first.result c.lines.invariant.seat c.lines.invariant.first c.past_indent-first.ensures.spaces).column

pub returns-in_err-seen_at-clause-value : goal.returns-in_err-seen_at-clause-value
returns-in_err-seen_at-clause-value c =
    let (spot, e) = c.in_err-seen_at.ensures in
    let p = err_from_is_err_and c.from_residual.result c.from_residual.ensures.1 in
    rw (p.1, p.2) (stacks_tab (byte c.args.text.now c.args.start == 62) c.args.header.chomp c.args.column c.args.text.now c.args.header.at c.args.arena.now.items c.lines.arena.items c.lines.stack c.past_indent-first.result (refusals.Wrong c.in_err-seen_at.field-0.0) c.lines.invariant c.past_indent-first.ensures.value spot e)

pub returns-in-Other-clause-value : goal.returns-in-Other-clause-value
returns-in-Other-clause-value c =
    let spot = rw c.in-Other.is at c.in_ok-seen_at.ensures in
    stacks_stop (byte c.args.text.now c.args.start == 62) c.args.header.chomp c.args.column c.args.text.now c.args.header.at c.args.arena.now.items c.lines.arena.items c.put_end.new.arena.items c.lines.stack c.past_indent-first.result c.lines.invariant c.past_indent-first.ensures.spaces c.past_indent-first.ensures.value spot c.in_ok-put_end-in-Other.ensures.value

pub lines-smaller-in-Empty : goal.lines-smaller-in-Empty
lines-smaller-in-Empty c =
    let (some, spot) = rw c.in-Empty.is at c.in_ok-seen_at.ensures in
    let further = empty_further c.args.text.now c.lines.stack c.behind_empty-stack.result c.past_indent-first.result c.behind_empty-stack.ensures c.past_indent-first.ensures.spaces some in
    omega arith

pub lines-preserved-in-Empty : goal.lines-preserved-in-Empty
lines-preserved-in-Empty c =
    let (some, spot) = rw c.in-Empty.is at c.in_ok-seen_at.ensures in
    rw c.behind_empty-stack.ensures (stacks_empty (byte c.args.text.now c.args.start == 62) c.args.header.chomp c.args.column c.args.text.now c.args.header.at c.args.arena.now.items c.lines.arena.items c.lines.stack c.past_indent-first.result c.lines.invariant c.past_indent-first.ensures.spaces c.past_indent-first.ensures.value some spot)

pub behind_text-stack-requires : goal.behind_text-stack-requires
behind_text-stack-requires c =
    let (some, none, spot) = rw c.in-Text.is at c.in_ok-seen_at.ensures in
    rw c.line_end-end.ensures (text_line c.args.text.now c.lines.stack.line c.lines.stack.at c.past_indent-first.result c.lines.invariant.seat c.past_indent-first.ensures.spaces some none)

pub lines-smaller : goal.lines-smaller
lines-smaller c =
    let (some, none, spot) = rw c.in-Text.is at c.in_ok-seen_at.ensures in
    let further = text_further c.args.text.now c.lines.stack c.behind_text-stack.result c.past_indent-first.result (rw c.line_end-end.ensures at c.behind_text-stack.ensures) c.past_indent-first.ensures.spaces some none in
    omega arith

pub lines-preserved : goal.lines-preserved
lines-preserved c =
    let (some, none, spot) = rw c.in-Text.is at c.in_ok-seen_at.ensures in
    rw (c.behind_text-stack.ensures, c.line_end-end.ensures) (stacks_text (byte c.args.text.now c.args.start == 62) c.args.header.chomp c.args.column c.args.text.now c.args.header.at c.args.arena.now.items c.lines.arena.items c.put_line.new.arena.items c.lines.stack c.past_indent-first.result c.lines.invariant c.past_indent-first.ensures.spaces c.past_indent-first.ensures.value some none spot (rw (c.byte-folded.ensures, c.line_end-end.ensures) at c.in_ok-put_line-in-Text.ensures.value))

pub put_line-requires-clause-order : goal.put_line-requires-clause-order
put_line-requires-clause-order c = let (after, inside) = text_end c.args.text.now c.past_indent-first.result c.line_end-end.result c.line_end-end.ensures (rw c.in-Text.is at c.in_ok-seen_at.ensures).0 in omega arith

pub put_line-requires-clause-inside : goal.put_line-requires-clause-inside
put_line-requires-clause-inside c = let (after, inside) = text_end c.args.text.now c.past_indent-first.result c.line_end-end.result c.line_end-end.ensures (rw c.in-Text.is at c.in_ok-seen_at.ensures).0 in omega arith
