use Rattle.std.proofs.Common.{◌==◌, ◌-◌, length}
use Rattle.yaml_scan_text.proofs.Words.{byte}
use Rattle.yaml_scan_text.proofs.StackLemmas.{Stacks}
use Rattle.yaml_scan_text.proofs.block.block_lines.Given as goal

abbrev pub invariant-lines : goal.invariant-lines
invariant-lines l = Stacks (byte l.text l.start == 62) l.header.chomp l.column l.text l.header.at l.fn.arena.items l.arena.items l.stack

abbrev pub decreases-lines : goal.decreases-lines
decreases-lines l = length l.text - l.stack.at
