use Rattle.std.proofs.Common.{◌+◌, true, refl, ◌∙◌, ap, subst, Ok, Err, arith}
use Rattle.std.proofs.lemmas.Result.{err_from_is_err_and}
use Rattle.yaml_scan_history.specs.declared.kind.Kind.TheVariants as reads
use Rattle.yaml_scan_model.specs.scan_types.Tokens as tokens
use Rattle.yaml_scan_model.specs.declared.kind.Kind.TheVariants as kinds
use Rattle.yaml_scan_core.specs.declared.scanner.Scanner.{Scanner}
use Rattle.yaml_scan_core.specs.Candidates.{cancelled_at, index_in, stack_of}
use Rattle.yaml_scan_core.specs.Scanning.{Tests, history_of}
use Rattle.yaml_scan_core.proofs.GroupsLemmas.{late_falls}
use Rattle.yaml_scan_core.proofs.KindsLemmas.{loses, place_cancels, stands_told}
use Rattle.yaml_scan_core.proofs.PlacesLemmas.{byte_place}
use Rattle.yaml_scan_core.proofs.TakesLemmas.{falls_same, reads_err}
use Rattle.yaml_scan_core.proofs.StartsLemmas.{entry_starts, entry_word, flag_note, level_by, may_stand, misplaced_falls, opened_by, starting_takes}
use Rattle.yaml_scan_core.proofs.StandTaken.{reads_closed, takes_closed}
use Rattle.yaml_scan_core.proofs.scanner.Scanner.block_entry.Goals as goal

pub returns-in_err-check_allowed : goal.returns-in_err-check_allowed
returns-in_err-check_allowed c =
    let was = c.args.self.now in
    let s = c.close_levels-ends.new.self in
    let h = history_of s in
    let e = err_from_is_err_and c.from_residual.result c.from_residual.ensures.1 in
    reads_closed was s _ c.from_residual.result c.close_levels-ends.ensures.same
    (misplaced_falls reads.BlockEntry s c.check_allowed.new.self h c.close_levels-ends.result c.from_residual.result e.0 c.in_err-check_allowed.field-0.0 c.close_levels-ends.ensures.stands (entry_starts s h) c.check_allowed.ensures.same c.in_err-check_allowed.ensures.tests e.1)

pub returns-in_err-check_cancelled : goal.returns-in_err-check_cancelled
returns-in_err-check_cancelled c =
    let was = c.args.self.now in
    let s = c.close_levels-ends.new.self in
    let h = history_of s in
    let n = c.close_levels-ends.result in
    let a = c.close_levels-ends.ensures.stands in
    let st = entry_starts s h in
    let allowed = c.in_ok-check_allowed.ensures.kept in
    let good = may_stand reads.BlockEntry s h n _ c.check_allowed.new.self.fault c.in_ok-check_allowed.field-0 a st c.in_ok-check_allowed.ensures.tests in
    let new = c.check_cancelled.new.self in
    let e = err_from_is_err_and c.from_residual-in_err-check_cancelled.result c.from_residual-in_err-check_cancelled.ensures.1 in
    let tests = subst (λ (x : Scanner). Tests (index_in (cancelled_at s.text.now (stack_of x.keys))) x.at new.fault (Err c.in_err-check_cancelled.field-0.0)) allowed (c.in_err-check_cancelled.ensures.tests s.text.now) in
    let same = c.check_cancelled.ensures.same ∙ ap (λ (x : Scanner). record x { fault = new.fault }) allowed in
    reads_closed was s _ c.from_residual-in_err-check_cancelled.result c.close_levels-ends.ensures.same
    (reads_err s new h c.from_residual-in_err-check_cancelled.result e.0 e.1 (falls_same s new h a.behind.holds same
    (loses reads.BlockEntry s h n new.fault c.in_err-check_cancelled.field-0.0 a (place_cancels reads.BlockEntry s.text.now h refl refl) refl good tests)))

pub returns-in_err-opens : goal.returns-in_err-opens
returns-in_err-opens c =
    let was = c.args.self.now in
    let s = c.close_levels-ends.new.self in
    let h = history_of s in
    let n = c.close_levels-ends.result in
    let a = c.close_levels-ends.ensures.stands in
    let st = entry_starts s h in
    let allowed = c.in_ok-check_allowed.ensures.kept in
    let good = may_stand reads.BlockEntry s h n _ c.check_allowed.new.self.fault c.in_ok-check_allowed.field-0 a st c.in_ok-check_allowed.ensures.tests in
    let mid = c.check_cancelled.new.self in
    let same = c.in_ok-check_cancelled.ensures.kept ∙ allowed in
    let tests = subst (λ (x : Scanner). Tests (index_in (cancelled_at s.text.now (stack_of x.keys))) x.at mid.fault (Ok c.in_ok-check_cancelled.field-0)) allowed (c.in_ok-check_cancelled.ensures.tests s.text.now) in
    let opened = opened_by s mid c.open_level.new.self same c.open_level.ensures.same in
    let new = c.open_level.new.self in
    let e = err_from_is_err_and c.from_residual-in_err-opens.result c.from_residual-in_err-opens.ensures.1 in
    reads_closed was s _ c.from_residual-in_err-opens.result c.close_levels-ends.ensures.same
    (late_falls s new new.keys new.row h c.from_residual-in_err-opens.result e.0 a.behind.holds opened refl refl (λ r. r) e.1)

pub returns-in_err-push : goal.returns-in_err-push
returns-in_err-push c =
    let was = c.args.self.now in
    let s = c.close_levels-ends.new.self in
    let h = history_of s in
    let n = c.close_levels-ends.result in
    let a = c.close_levels-ends.ensures.stands in
    let st = entry_starts s h in
    let allowed = c.in_ok-check_allowed.ensures.kept in
    let good = may_stand reads.BlockEntry s h n _ c.check_allowed.new.self.fault c.in_ok-check_allowed.field-0 a st c.in_ok-check_allowed.ensures.tests in
    let mid = c.check_cancelled.new.self in
    let same = c.in_ok-check_cancelled.ensures.kept ∙ allowed in
    let tests = subst (λ (x : Scanner). Tests (index_in (cancelled_at s.text.now (stack_of x.keys))) x.at mid.fault (Ok c.in_ok-check_cancelled.field-0)) allowed (c.in_ok-check_cancelled.ensures.tests s.text.now) in
    let opened = opened_by s mid c.open_level.new.self same c.open_level.ensures.same in
    let new = c.open_level.new.self in
    let e = err_from_is_err_and c.from_residual-in_err-push.result c.from_residual-in_err-push.ensures.1 in
    reads_closed was s _ c.from_residual-in_err-push.result c.close_levels-ends.ensures.same
    (late_falls s new new.keys c.push.new.self h c.from_residual-in_err-push.result e.0 a.behind.holds opened refl c.in_err-push.ensures.err c.push.ensures.room e.1)

pub returns : goal.returns
returns c =
    let was = c.args.self.now in
    let s = c.close_levels-ends.new.self in
    let h = history_of s in
    let n = c.close_levels-ends.result in
    let a = c.close_levels-ends.ensures.stands in
    let st = entry_starts s h in
    let allowed = c.in_ok-check_allowed.ensures.kept in
    let good = may_stand reads.BlockEntry s h n _ c.check_allowed.new.self.fault c.in_ok-check_allowed.field-0 a st c.in_ok-check_allowed.ensures.tests in
    let mid = c.check_cancelled.new.self in
    let same = c.in_ok-check_cancelled.ensures.kept ∙ allowed in
    let tests = subst (λ (x : Scanner). Tests (index_in (cancelled_at s.text.now (stack_of x.keys))) x.at mid.fault (Ok c.in_ok-check_cancelled.field-0)) allowed (c.in_ok-check_cancelled.ensures.tests s.text.now) in
    let opened = opened_by s mid c.open_level.new.self same c.open_level.ensures.same in
    let new = c.open_level.new.self in
    let b = c.in_ok-opens.opens in
    let text = s.text.now in
    let lv = level_by reads.BlockEntry s mid new h n c.column.result b a same c.column.ensures c.in_ok-opens.ensures.levels c.in_ok-opens.ensures.opens c.in_ok-opens.ensures.few in
    let place = byte_place text s.at s.line s.wide 45 a.behind.place (stands_told reads.BlockEntry s h n a) (omega arith) (omega arith) in
    takes_closed was s _ c.close_levels-ends.ensures.same
    (starting_takes reads.BlockEntry kinds.BlockEntry tokens.block_entry b s new c.push.new.self c.give_up.new.self true c.opening.result h n mid.fault c.in_ok-check_cancelled.field-0 a st refl (λ e. cc) refl refl refl refl good tests
    (entry_word text h) (λ o. (record { plain = flag_note reads.BlockEntry kinds.BlockEntry n s.at (s.at + 1) b }, refl)) opened c.opening.ensures c.in_ok-push.ensures.ok c.in_ok-push.ensures.more lv place refl c.give_up.ensures)
