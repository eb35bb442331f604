use Rattle.std.proofs.Common.{◌≡◌, ◌+◌, ◌-◌, rules, arith, length}
use Rattle.std.proofs.lemmas.List.{take_rest}
use Rattle.yaml_scan_runs.proofs.Places.{Placed-over}
use Rattle.yaml_scan_runs.proofs.place.place_ends.Goals as goal

pub returns : goal.returns
returns g c =
    let src = c.args.text.now in
    let size = g.row.N in
    let end : c.args.at + (length src - size) + size ≡ c.args.at + length src = omega arith in
    rw end at (Placed-over src size size (search rules) c.requires.covers.0 c.requires.covers.0 c.requires.covers.1 c.place_front.ensures
    (rw (take_rest src (length src - size)) at c.place_front-2.ensures))
