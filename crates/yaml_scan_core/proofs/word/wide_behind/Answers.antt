use Rattle.yaml_scan_core.proofs.SeatLemmas.{line_before, seat_next, seat_on}
use Rattle.yaml_scan_core.proofs.word.wide_behind.Goals as goal

pub returns-then-line-spot : goal.returns-then-line-spot
returns-then-line-spot c =
    seat_on c.args.text.now c.args.spot.at c.args.spot.line c.args.spot.wide c.args.at c.args.line c.counted.result
    c.requires.place c.requires.order c.requires.inside c.requires.whole c.requires.line c.if-line-spot.true c.counted.ensures

pub counted-requires-2-clause-order : goal.counted-requires-2-clause-order
counted-requires-2-clause-order c = line_before c.args.text.now c.args.at c.args.line c.requires.line

pub returns : goal.returns
returns c = seat_next c.args.text.now c.args.at c.args.line c.counted-2.result c.requires.inside c.requires.whole c.requires.line c.counted-2.ensures
