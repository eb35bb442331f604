use Rattle.std.proofs.Common.{◌-◌, length}
use Rattle.yaml_scan_core.specs.Scanning.{Passes, StaysAt}
use Rattle.yaml_scan_core.proofs.scanner.Scanner.skip_gap.Given as goal

abbrev pub invariant-gap : goal.invariant-gap
invariant-gap l = record {
  same : StaysAt l.initial.self l.self;
  passes : Passes l.initial.self l.self;
}

abbrev pub decreases-gap : goal.decreases-gap
decreases-gap l = length l.initial.self.text.now - l.self.at
