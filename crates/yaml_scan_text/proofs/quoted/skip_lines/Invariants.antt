use Rattle.std.proofs.Common.{◌+◌, ◌-◌, length}
use Rattle.yaml_scan_text.proofs.Words.{break_width}
use Rattle.yaml_scan_text.proofs.HeadLemmas.{Passed}
use Rattle.yaml_scan_text.proofs.quoted.skip_lines.Given as goal

abbrev pub invariant-lines : goal.invariant-lines
invariant-lines l = Passed 0 l.text (l.from + break_width l.text l.from) l.line l.line

abbrev pub decreases-lines : goal.decreases-lines
decreases-lines l = length l.text - l.line
