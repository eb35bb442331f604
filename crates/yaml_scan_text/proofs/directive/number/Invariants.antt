use Rattle.std.proofs.Common.{◌-◌, length}
use Rattle.yaml_scan_text.proofs.DirectiveLemmas.{Digits}
use Rattle.yaml_scan_text.proofs.directive.number.Given as goal

abbrev pub invariant-digits : goal.invariant-digits
invariant-digits l = Digits l.text l.from l.at

abbrev pub decreases-digits : goal.decreases-digits
decreases-digits l = length l.text - l.at
