use Rattle.yaml_scan_core.proofs.SeatLemmas.{counted_none}
use Rattle.yaml_scan_core.proofs.word.counted.Goals as goal

pub returns : goal.returns
returns c = counted_none c.args.text.now c.args.from c.args.to c.requires.order (c.requires.narrow c.if-wide.false)
