use Rattle.std.proofs.Common.{◌+◌, arith}
use Rattle.yaml_emit_scalars.proofs.ClassLemmas.{none_more, covers_none}
use Rattle.yaml_emit_scalars.proofs.class.first_of.Goals as goal

pub rows-preserved : goal.rows-preserved
rows-preserved c =
    none_more c.args.classes c.args.text.now c.args.from c.rows.at (c.rows.at + 8) c.rows.invariant (omega arith) (omega (arith, c.rows-test.true, c.rows.invariant.inside))
    (covers_none _ c.args.classes c.args.text.now c.rows.at (c.rows.at + 8) c.row_classes.ensures c.if-row_classes-classes-eq0.true)
