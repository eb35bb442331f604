use Rattle.std.proofs.Common.{arith}
use Rattle.yaml_scan_text.proofs.BlockLemmas.{column_digit, column_deep}
use Rattle.yaml_scan_text.proofs.block.text_column.Goals as goal

pub returns-then-digit-gt0 : goal.returns-then-digit-gt0
returns-then-digit-gt0 c = column_digit c.args.text.now c.args.from c.args.margin c.args.digit _ (omega arith) (omega arith)

pub returns : goal.returns
returns c = column_deep c.args.text.now c.args.from c.args.margin c.args.digit c.max.result c.deepest.result (omega arith) c.max.ensures c.deepest.ensures
