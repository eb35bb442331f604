use Rattle.std.proofs.Common.{false, subst}
use Rattle.std.proofs.lemmas.Result.{err_from_is_err_and}
use Rattle.yaml_scan_core.specs.Scanning.{StandsAs, history_of, read_as}
use Rattle.yaml_scan_core.proofs.GroupsLemmas.{closer, closer_body, closer_depth, closing_takes, plain_falls, put_falls}
use Rattle.yaml_scan_core.proofs.StandTaken.{reads_closed, takes_closed}
use Rattle.yaml_scan_core.proofs.scanner.Scanner.close_flow.Goals as goal

pub returns-in_err-check_cancelled : goal.returns-in_err-check_cancelled
returns-in_err-check_cancelled c =
    let was = c.args.self.now in
    let s = c.close_levels-ends.new.self in
    let a = subst (λ k. StandsAs k s (history_of s) c.close_levels-ends.result) c.requires.read c.close_levels-ends.ensures.stands in
    let e = err_from_is_err_and c.from_residual.result c.from_residual.ensures.1 in
    reads_closed was s _ c.from_residual.result c.close_levels-ends.ensures.same
    (plain_falls (read_as c.args.kind) (c.args.kind) (closer_body c.args.kind) 1 false s c.check_cancelled.new.self (history_of s) c.close_levels-ends.result c.from_residual.result e.0 c.in_err-check_cancelled.field-0.0
    (closer c.args.kind c.requires.closer) a c.check_cancelled.ensures.same (c.in_err-check_cancelled.ensures.tests s.text.now) e.1)

pub returns-in_err-push : goal.returns-in_err-push
returns-in_err-push c =
    let was = c.args.self.now in
    let s = c.close_levels-ends.new.self in
    let a = subst (λ k. StandsAs k s (history_of s) c.close_levels-ends.result) c.requires.read c.close_levels-ends.ensures.stands in
    let e = err_from_is_err_and c.from_residual-in_err-push.result c.from_residual-in_err-push.ensures.1 in
    reads_closed was s _ c.from_residual-in_err-push.result c.close_levels-ends.ensures.same
    (put_falls (read_as c.args.kind) s c.check_cancelled.new.self c.push.new.self (history_of s) c.close_levels-ends.result c.from_residual-in_err-push.result e.0 a
    c.in_ok-check_cancelled.ensures.kept c.in_err-push.ensures.err c.push.ensures.room e.1)

pub returns : goal.returns
returns c =
    let was = c.args.self.now in
    let s = c.close_levels-ends.new.self in
    let a = subst (λ k. StandsAs k s (history_of s) c.close_levels-ends.result) c.requires.read c.close_levels-ends.ensures.stands in
    let mid = c.check_cancelled.new.self in
    takes_closed was s _ c.close_levels-ends.ensures.same
    (closing_takes (read_as c.args.kind) c.args.kind (closer_body c.args.kind) s mid c.leave.new.self c.push.new.self c.new.result (history_of s) c.close_levels-ends.result mid.fault c.in_ok-check_cancelled.field-0 (closer c.args.kind c.requires.closer) (closer_depth c.args.kind c.requires.closer) a
    c.in_ok-check_cancelled.ensures.kept (c.in_ok-check_cancelled.ensures.tests s.text.now) c.new.ensures c.in_ok-push.ensures.ok c.in_ok-push.ensures.more c.leave.ensures)
