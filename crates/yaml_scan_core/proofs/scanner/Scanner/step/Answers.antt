use Rattle.std.proofs.Common.{sym}
use Rattle.std.proofs.lemmas.Result.{err_from_is_err_and}
use Rattle.yaml_scan_core.specs.Scanning.{history_of}
use Rattle.yaml_scan_core.proofs.StepTaken.{falls_from, steps, steps_err}
use Rattle.yaml_scan_core.proofs.scanner.Scanner.step.Goals as goal

pub returns-in_err-lexeme : goal.returns-in_err-lexeme
returns-in_err-lexeme c =
    let s = c.args.self.now in
    let mid = c.stand.new.self in
    let new = c.lexeme.new.self in
    let (at, text, row, fixed) = c.in_ok-kind.ensures in
    let e = err_from_is_err_and c.from_residual-in_err-lexeme.result c.from_residual-in_err-lexeme.ensures.1 in
    steps_err s new (history_of s) c.from_residual-in_err-lexeme.result e.0 e.1
    (falls_from s mid new (history_of s) (history_of mid) text row fixed (sym at.behind.is) c.in_err-lexeme.ensures)

pub returns : goal.returns
returns c =
    let (at, text, row, fixed) = c.in_ok-kind.ensures in
    steps c.args.self.now c.stand.new.self c.lexeme.new.self c.check_required.new.self c.in_ok-kind.kind c.check_required.result
    at text row fixed c.in_ok-lexeme.ensures c.check_required.ensures.same c.check_required.ensures.kept c.check_required.ensures.tests
