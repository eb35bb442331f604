use Rattle.std.proofs.Common.{◌≡◌, ◌+◌, ◌-◌, rules, arith, length, take-add}
use Rattle.std.proofs.lemmas.List.{take_rest}
use Rattle.yaml_scan_runs.proofs.Places.{Placed-then, Placed-over}
use Rattle.yaml_scan_runs.proofs.place.place_rows.Goals as goal

pub loop-done-preserved : goal.loop-done-preserved
loop-done-preserved c =
    let src = c.args.text.now in
    let done = c.loop-done.done in
    let both = Placed-then c.loop-done.invariant.1 (rw (take_rest src done) at c.place_front.ensures) in
    let end : c.args.at + done + 16 ≡ c.args.at + (done + 16) = omega arith in
    (search rules, rw (take-add done 16 src, ← end) both)

pub returns : goal.returns
returns c =
    let src = c.args.text.now in
    let end : c.args.at + (length src - 16) + 16 ≡ c.args.at + length src = omega arith in
    rw end at (Placed-over src c.loop-done.done 16 (search rules) c.loop-done.invariant.0 c.requires.0 (omega arith) c.loop-done.invariant.1
    (rw (take_rest src (length src - 16)) at c.place_front-2.ensures))
