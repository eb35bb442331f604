use Rattle.std.proofs.lemmas.Result.{err_from_is_err_and}
use Rattle.yaml_scan_text.proofs.QuotesLemmas.{fold_goes, trimmed_past}
use Rattle.yaml_scan_text.proofs.QuotesRead.{fold_refused}
use Rattle.yaml_scan_text.proofs.quoted.fold_lines.Goals as goal

pub returns-in_err-head-clause-value : goal.returns-in_err-head-clause-value
returns-in_err-head-clause-value c =
    let p = err_from_is_err_and c.from_residual.result c.from_residual.ensures.1 in
    rw (p.1, p.2) (fold_refused c.args.quote c.args.text.now c.args.arena.now.items c.args.arena.now.items c.args.read c.in_err-head.field-0.0 c.requires.quote c.requires.broke c.in_err-head.ensures)

pub take_line-requires-clause-broke : goal.take_line-requires-clause-broke
take_line-requires-clause-broke c = rw (trimmed_past c.args.text.now c.args.read.from c.args.read.at c.trim_blanks-end.result c.trim_blanks-end.ensures c.requires.broke) c.requires.broke

pub returns-clause-value : goal.returns-clause-value
returns-clause-value c =
    let (head, calm) = c.in_ok-head.ensures in
    fold_goes c.args.quote c.args.text.now c.args.arena.now.items c.take_line.new.arena.items c.args.read c.trim_blanks-end.result c.in_ok-head.head c.requires.quote c.requires.order c.requires.seat.inside c.trim_blanks-end.ensures c.requires.broke head calm c.in_ok-take_line.ensures.value
