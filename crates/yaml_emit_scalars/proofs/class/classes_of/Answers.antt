use Rattle.std.proofs.Common.{◌+◌, arith}
use Rattle.yaml_emit_scalars.proofs.ClassLemmas.{covers_any, covers_more, covers_row}
use Rattle.yaml_emit_scalars.proofs.class.classes_of.Goals as goal

pub rows-preserved : goal.rows-preserved
rows-preserved c = (omega (arith, c.rows-test.true, c.rows.invariant.0), covers_row _ _ c.args.text.now 0 c.rows.at (c.rows.at + 8) c.rows.invariant.1 c.row_classes-all.ensures)

pub bytes-preserved : goal.bytes-preserved
bytes-preserved c = (omega (arith, c.bytes-test.true), rw c.class_of-all.ensures (covers_more _ c.args.text.now 0 c.bytes.at c.bytes.invariant.1))

pub returns-then-text-ge-LONG : goal.returns-then-text-ge-LONG
returns-then-text-ge-LONG c = covers_any c.args.text.now 0 _
