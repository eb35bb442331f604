use Rattle.std.proofs.Common.{arith}
use Rattle.yaml_scan_core.proofs.ToldLemmas.{mark_narrow, mark_small}
use Rattle.yaml_scan_core.proofs.place.run_behind.Goals as goal

pub overflow_add-result : goal.overflow_add-result
overflow_add-result c =
    let small = mark_small c.args.text.now c.args.mark c.requires.mark in
    omega (arith, small.1, c.run_to-run.ensures.run.ordered, c.run_to-run.ensures.run.within, c.ranges.to.fits)

pub returns-clause-mark : goal.returns-clause-mark
returns-clause-mark c =
    mark_narrow c.args.text.now c.args.mark c.run_to-run.result.end c.requires.mark c.run_to-run.ensures.run.ordered c.run_to-run.ensures.run.passed (c.run_to-run.ensures.narrow c.if-run.false)
