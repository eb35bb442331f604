use Rattle.std.proofs.Common.{◌+◌, arith}
use Rattle.std.proofs.lemmas.Result.{err_from_is_err_and}
use Rattle.yaml_scan_text.proofs.TextLemmas.{break_inside}
use Rattle.yaml_scan_text.proofs.FoldsLemmas.{keeps_on, keeps_more, keeps_same}
use Rattle.yaml_scan_text.proofs.QuotesRead.{line_goes, line_refused}
use Rattle.yaml_scan_text.proofs.quoted.escape_line.Goals as goal

pub returns-in_err-head-clause-value : goal.returns-in_err-head-clause-value
returns-in_err-head-clause-value c =
    let p = err_from_is_err_and c.from_residual.result c.from_residual.ensures.1 in
    rw (p.1, p.2) (line_refused c.args.text.now c.args.arena.now.items c.args.arena.now.items c.args.read c.in_err-head.field-0.0 c.requires.seat c.requires.first c.requires.broke c.in_err-head.ensures)

pub returns-in_err-extend_from_slice-clause-kept : goal.returns-in_err-extend_from_slice-clause-kept
returns-in_err-extend_from_slice-clause-kept c = rw c.in_err-extend_from_slice.ensures.items (keeps_same c.args.arena.now.items)

pub overflow_add-broken-2 : goal.overflow_add-broken-2
overflow_add-broken-2 c = let inside = break_inside c.args.text.now (c.args.read.at + 1) c.requires.broke in omega arith

pub returns-in_err-push_breaks-clause-kept : goal.returns-in_err-push_breaks-clause-kept
returns-in_err-push_breaks-clause-kept c = keeps_on _ _ _ (keeps_more _ _ _ _ (keeps_same c.args.arena.now.items) c.in_ok-extend_from_slice.ensures.items) c.in_err-push_breaks.ensures.kept

pub returns-clause-value : goal.returns-clause-value
returns-clause-value c =
    let (head, calm) = c.in_ok-head.ensures in
    line_goes c.args.text.now c.args.arena.now.items c.extend_from_slice.new.self.items c.push_breaks.new.out.items c.args.read c.in_ok-head.head c.requires.order c.requires.seat c.requires.first c.requires.broke head calm c.in_ok-extend_from_slice.ensures.items (rw c.break_width.ensures at c.in_ok-push_breaks.ensures.value)

pub returns-clause-kept : goal.returns-clause-kept
returns-clause-kept c = keeps_on _ _ _ (keeps_more _ _ _ _ (keeps_same c.args.arena.now.items) c.in_ok-extend_from_slice.ensures.items) c.in_ok-push_breaks.ensures.kept
