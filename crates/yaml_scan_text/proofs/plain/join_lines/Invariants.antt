use Rattle.std.proofs.Common.{◌-◌, length}
use Rattle.yaml_scan_text.proofs.JoinLemmas.{Joins}
use Rattle.yaml_scan_text.proofs.plain.join_lines.Given as goal

abbrev pub invariant-lines : goal.invariant-lines
invariant-lines l = Joins l.flow l.margin l.text l.start l.fn.arena.items l.arena.items l.from l.part l.head

abbrev pub decreases-lines : goal.decreases-lines
decreases-lines l = length l.text - l.from
