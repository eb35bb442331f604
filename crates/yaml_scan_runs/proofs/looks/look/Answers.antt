use Rattle.std.proofs.Common.{rules}
use Rattle.std.proofs.lemmas.Simd.{length-chunk}
use lib.Lanes.{chunk}
use Rattle.yaml_scan_runs.specs.Runs.{is_stop}
use Rattle.yaml_scan_runs.proofs.Stops.{look_is}
use Rattle.yaml_scan_runs.proofs.looks.look.Goals as goal

pub overflow_add-result : goal.overflow_add-result
overflow_add-result g c =
    let text = c.args.text.now in
    let from = c.args.from in
    let run = look_is (is_stop c.args.stops.now) text from c.leading.result c.requires
    (c.leading.ensures (is_stop c.args.stops.now) (chunk from 16 text) (length-chunk from 16 text c.requires) c.among.ensures) in
    let within = run.within in
    search (rules, within)

pub returns : goal.returns
returns g c =
    let text = c.args.text.now in
    let from = c.args.from in
    look_is (is_stop c.args.stops.now) text from c.leading.result c.requires
    (c.leading.ensures (is_stop c.args.stops.now) (chunk from 16 text) (length-chunk from 16 text c.requires) c.among.ensures)
