use Rattle.std.proofs.Common.{not, refl, ap}
use Rattle.std.proofs.lemmas.Result.{err_from_is_err_and}
use Rattle.yaml_scan_history.specs.declared.kind.Kind.TheVariants as reads
use Rattle.yaml_scan_core.specs.Scanning.{history_of}
use Rattle.yaml_scan_core.proofs.GroupsLemmas.{late_falls}
use Rattle.yaml_scan_core.proofs.StartsLemmas.{alone_takes, level_by, may_stand, misplaced_falls, opened_by, value_starts}
use Rattle.yaml_scan_core.proofs.scanner.Scanner.value_alone.Goals as goal

pub returns-in_err-check_allowed : goal.returns-in_err-check_allowed
returns-in_err-check_allowed c =
    let s = c.args.self.now in
    let h = history_of s in
    let e = err_from_is_err_and c.from_residual.result c.from_residual.ensures.1 in
    misplaced_falls reads.ValueMark s c.check_allowed.new.self h c.args.ends c.from_residual.result e.0 c.in_err-check_allowed.field-0.0 c.requires.stands (value_starts s h c.args.ends c.requires.stands c.requires.none) c.check_allowed.ensures.same c.in_err-check_allowed.ensures.tests e.1

pub returns-in_err-opens : goal.returns-in_err-opens
returns-in_err-opens c =
    let s = c.args.self.now in
    let h = history_of s in
    let n = c.args.ends in
    let a = c.requires.stands in
    let st = value_starts s h n a c.requires.none in
    let mid = c.check_allowed.new.self in
    let same = c.in_ok-check_allowed.ensures.kept in
    let opened = opened_by s mid c.open_level.new.self same c.open_level.ensures.same in
    let new = c.open_level.new.self in
    let e = err_from_is_err_and c.from_residual-in_err-opens.result c.from_residual-in_err-opens.ensures.1 in
    late_falls s new new.keys new.row h c.from_residual-in_err-opens.result e.0 a.behind.holds opened refl refl (λ r. r) e.1

pub returns-in_err-push : goal.returns-in_err-push
returns-in_err-push c =
    let s = c.args.self.now in
    let h = history_of s in
    let n = c.args.ends in
    let a = c.requires.stands in
    let st = value_starts s h n a c.requires.none in
    let mid = c.check_allowed.new.self in
    let same = c.in_ok-check_allowed.ensures.kept in
    let opened = opened_by s mid c.open_level.new.self same c.open_level.ensures.same in
    let new = c.open_level.new.self in
    let e = err_from_is_err_and c.from_residual-in_err-push.result c.from_residual-in_err-push.ensures.1 in
    late_falls s new new.keys c.push.new.self h c.from_residual-in_err-push.result e.0 a.behind.holds opened refl c.in_err-push.ensures.err c.push.ensures.room e.1

pub returns : goal.returns
returns c =
    let s = c.args.self.now in
    let h = history_of s in
    let n = c.args.ends in
    let a = c.requires.stands in
    let st = value_starts s h n a c.requires.none in
    let mid = c.check_allowed.new.self in
    let same = c.in_ok-check_allowed.ensures.kept in
    let opened = opened_by s mid c.open_level.new.self same c.open_level.ensures.same in
    let new = c.open_level.new.self in
    let b = c.in_ok-opens.opens in
    let good = may_stand reads.ValueMark s h n _ mid.fault c.in_ok-check_allowed.field-0 a st c.in_ok-check_allowed.ensures.tests in
    let lv = level_by reads.ValueMark s mid new h n c.column.result b a same c.column.ensures c.in_ok-opens.ensures.levels c.in_ok-opens.ensures.opens c.in_ok-opens.ensures.few in
    alone_takes s new c.push.new.self (not c.in_flow.result) b c.opening.result h n a c.requires.none good opened c.opening.ensures c.in_ok-push.ensures.ok c.in_ok-push.ensures.more lv (ap not c.in_flow.ensures)
