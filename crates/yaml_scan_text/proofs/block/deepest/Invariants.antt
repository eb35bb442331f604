use Rattle.std.proofs.Common.{◌-◌, length}
use Rattle.yaml_scan_text.proofs.BlockLemmas.{Depth}
use Rattle.yaml_scan_text.proofs.block.deepest.Given as goal

abbrev pub invariant-lines : goal.invariant-lines
invariant-lines l = Depth l.text l.from l.least l.at l.column

abbrev pub decreases-lines : goal.decreases-lines
decreases-lines l = length l.text - l.at
