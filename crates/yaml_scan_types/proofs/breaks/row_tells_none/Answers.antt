use Rattle.std.proofs.Common.{arith}
use Rattle.yaml_scan_types.specs.Classes.{is_break}
use Rattle.yaml_scan_types.proofs.BreaksLemmas.{row_more}
use Rattle.yaml_scan_types.proofs.breaks.row_tells_none.Goals as goal

pub bytes-preserved : goal.bytes-preserved
bytes-preserved c =
    (omega (arith, c.bytes-test.true), row_more (is_break c.args.text.now) c.args.at c.bytes.count c.bytes.all c.tells_none-all.result c.bytes.invariant.1 c.tells_none-all.ensures)
