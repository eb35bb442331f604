use Rattle.std.proofs.Common.{refl, ◌<◌, arith}
use Rattle.yaml_emit_core.proofs.Narrowing.{part_rises, better_by, narrowed}
use Rattle.yaml_emit_core.proofs.prefixes.first_among.Goals as goal

pub edge-start-requires-clause-rises : goal.edge-start-requires-clause-rises
edge-start-requires-clause-rises c = part_rises _ c.args.tag.now c.loop-depth.from c.loop-depth.to c.loop-depth.depth c.loop-depth.best c.requires c.loop-depth.invariant

pub edge-to-requires-clause-rises : goal.edge-to-requires-clause-rises
edge-to-requires-clause-rises c = λ i j a b d. part_rises _ c.args.tag.now c.loop-depth.from c.loop-depth.to c.loop-depth.depth c.loop-depth.best c.requires c.loop-depth.invariant i j (omega arith) b d

pub loop-depth-preserved : goal.loop-depth-preserved
loop-depth-preserved c =
    let part : c.loop-depth.from < c.loop-depth.to = omega arith in
    let more = better_by c.args.entries.now c.args.tag.now _ _ _ c.loop-depth.best c.ended.result c.smaller-best.result c.index-entries-from.result c.requires c.loop-depth.invariant part c.loop-depth-test.true c.index-entries-from.is c.ended.ensures c.smaller-best.ensures in
    narrowed _ _ _ _ _ c.edge-start.result c.edge-to.result _ _ _ c.loop-depth.invariant c.loop-depth-test.true refl more c.edge-start.ensures.from c.edge-start.ensures.to c.edge-start.ensures.below c.edge-start.ensures.above
    c.edge-to.ensures.from c.edge-to.ensures.to c.edge-to.ensures.below c.edge-to.ensures.above
