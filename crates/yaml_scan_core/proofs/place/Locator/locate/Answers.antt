use Rattle.std.proofs.Common.{length, arith}
use Rattle.yaml_scan_core.proofs.ToldLemmas.{line_small}
use Rattle.yaml_scan_core.proofs.place.Locator.locate.Goals as goal

pub overflow_add-result : goal.overflow_add-result
overflow_add-result c =
    let small = line_small c.args.text.now c.reach.new.self.mark (length c.args.text.now) c.reach.ensures.mark in
    omega (arith, small, c.if-place-text.true, c.ranges.place.fits)
