use Rattle.std.proofs.Common.{refl}
use Rattle.std.proofs.lemmas.Result.{err_from_is_err_and}
use Rattle.yaml_scan_history.specs.declared.kind.Kind.TheVariants as reads
use Rattle.yaml_scan_core.specs.Scanning.{history_of}
use Rattle.yaml_scan_core.proofs.GroupsLemmas.{put_falls}
use Rattle.yaml_scan_core.proofs.EndLemmas.{due_at_place, end_falls, end_takes}
use Rattle.yaml_scan_core.proofs.StandTaken.{falls_closed, reads_closed, takes_closed}
use Rattle.yaml_scan_core.proofs.scanner.Scanner.stream_end.Goals as goal

pub returns-in-Some : goal.returns-in-Some
returns-in-Some c =
    let was = c.args.self.now in
    let s = c.close_levels-ends.new.self in
    falls_closed was s _ c.close_levels-ends.ensures.same (end_falls s c.no_colon.new.self (history_of s) c.close_levels-ends.result c.in-Some.start c.end_place-place.result c.close_levels-ends.ensures.stands c.end_place-place.ensures c.no_colon.ensures (due_at_place s c.end_place-place.result c.due_at.result _ c.end_place-place.ensures c.in-Some.is (c.due_at.ensures s.text.now)))

pub returns-in_err-push : goal.returns-in_err-push
returns-in_err-push c =
    let was = c.args.self.now in
    let s = c.close_levels-ends.new.self in
    let e = err_from_is_err_and c.from_residual.result c.from_residual.ensures.1 in
    reads_closed was s _ c.from_residual.result c.close_levels-ends.ensures.same
    (put_falls reads.StreamEnd s s c.push.new.self (history_of s) c.close_levels-ends.result c.from_residual.result e.0 c.close_levels-ends.ensures.stands refl c.in_err-push.ensures.err c.push.ensures.room e.1)

pub returns : goal.returns
returns c =
    let was = c.args.self.now in
    let s = c.close_levels-ends.new.self in
    takes_closed was s _ c.close_levels-ends.ensures.same
    (end_takes s c.push.new.self c.give_up.new.self c.new.result c.end_place-place.result (history_of s) c.close_levels-ends.result c.close_levels-ends.ensures.stands c.end_place-place.ensures (due_at_place s c.end_place-place.result c.due_at.result _ c.end_place-place.ensures c.in-None.is (c.due_at.ensures s.text.now))
    c.new.ensures c.in_ok-push.ensures.ok c.in_ok-push.ensures.more c.give_up.ensures)
