use Rattle.std.proofs.lemmas.Result.{err_from_is_err_and}
use Rattle.yaml_scan_text.proofs.DirectiveLemmas.{directive_read, directive_refused, directive_stopped, value_seat}
use Rattle.yaml_scan_text.proofs.directive.read_directive.Goals as goal

pub returns-in_err-value-clause-value : goal.returns-in_err-value-clause-value
returns-in_err-value-clause-value c =
    let p = err_from_is_err_and c.from_residual.result c.from_residual.ensures.1 in
    rw (p.1, p.2) (directive_refused c.args.text.now c.args.start c.args.arena.now.items c.read_value.new.arena.items c.in_err-value.field-0.0 c.in_err-value.ensures.value)

pub finish_line-requires-clause-whole : goal.finish_line-requires-clause-whole
finish_line-requires-clause-whole c = (value_seat c.args.text.now c.args.start c.args.line c.args.arena.now.items c.read_value.new.arena.items c.in_ok-value.value _ c.in_ok-value.ensures.value c.requires.whole c.requires.line).1

pub finish_line-requires-clause-line : goal.finish_line-requires-clause-line
finish_line-requires-clause-line c = (value_seat c.args.text.now c.args.start c.args.line c.args.arena.now.items c.read_value.new.arena.items c.in_ok-value.value _ c.in_ok-value.ensures.value c.requires.whole c.requires.line).2

pub returns-in_err-end-clause-value : goal.returns-in_err-end-clause-value
returns-in_err-end-clause-value c =
    let p = err_from_is_err_and c.from_residual-in_err-end.result c.from_residual-in_err-end.ensures.1 in
    rw (p.1, p.2) (directive_stopped c.args.text.now c.args.start c.args.arena.now.items c.read_value.new.arena.items c.in_ok-value.value c.in_err-end.field-0.0 c.in_ok-value.ensures.value c.in_err-end.ensures)

pub returns-clause-value : goal.returns-clause-value
returns-clause-value c = directive_read c.args.text.now c.args.start c.args.arena.now.items c.read_value.new.arena.items c.in_ok-value.value c.in_ok-end.end c.in_ok-value.ensures.value c.in_ok-end.ensures
