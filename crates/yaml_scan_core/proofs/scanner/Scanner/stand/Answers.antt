use Rattle.std.proofs.lemmas.Result.{err_from_is_err_and}
use Rattle.yaml_scan_core.specs.Scanning.{history_of}
use Rattle.yaml_scan_core.proofs.StandTaken.{behind_gap, finds, finds_err, late_there, none_late, none_there}
use Rattle.yaml_scan_core.proofs.scanner.Scanner.stand.Goals as goal

pub returns-in_err-check_required : goal.returns-in_err-check_required
returns-in_err-check_required c =
    let s = c.args.self.now in
    let mid = c.skip_gap.new.self in
    let h = history_of s in
    let e = err_from_is_err_and c.from_residual.result c.from_residual.ensures.1 in
    let b = behind_gap s mid c.requires.shows c.requires.some c.requires.more c.skip_gap.ensures.same c.skip_gap.ensures.passes c.skip_gap.ensures.gap in
    finds_err s c.check_required.new.self h c.from_residual.result e.0 e.1
    (late_there s mid c.check_required.new.self h c.in_err-check_required.field-0.0 c.skip_gap.ensures.same b c.check_required.ensures.same
    (c.in_err-check_required.ensures.tests mid.text.now b.place.begins))

pub returns-in-Some : goal.returns-in-Some
returns-in-Some c =
    let s = c.args.self.now in
    let mid = c.skip_gap.new.self in
    let h = history_of s in
    let b = behind_gap s mid c.requires.shows c.requires.some c.requires.more c.skip_gap.ensures.same c.skip_gap.ensures.passes c.skip_gap.ensures.gap in
    let early = none_late mid h c.check_required.new.self.fault c.in_ok-check_required.field-0 b (c.in_ok-check_required.ensures.tests mid.text.now b.place.begins) in
    finds s mid c.check_required.new.self h c.in-Some.kind c.requires.shows c.skip_gap.ensures.same b c.in_ok-check_required.ensures.kept early c.in-Some.ensures

pub returns-in-None : goal.returns-in-None
returns-in-None c =
    let s = c.args.self.now in
    let mid = c.skip_gap.new.self in
    let h = history_of s in
    let b = behind_gap s mid c.requires.shows c.requires.some c.requires.more c.skip_gap.ensures.same c.skip_gap.ensures.passes c.skip_gap.ensures.gap in
    let early = none_late mid h c.check_required.new.self.fault c.in_ok-check_required.field-0 b (c.in_ok-check_required.ensures.tests mid.text.now b.place.begins) in
    none_there s mid c.check_required.new.self c.refuse_at.new.self h c.skip_gap.ensures.same b c.in_ok-check_required.ensures.kept early c.in-None.ensures c.refuse_at.ensures
