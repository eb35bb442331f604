use Rattle.std.proofs.Common.{◌≡◌}
use Rattle.yaml_scan_core.specs.Handed.{HandsOn}
use Rattle.yaml_scan_core.specs.Scanning.{Rests}
use Rattle.yaml_scan_core.specs.Waiting.{Needs}
use Rattle.yaml_scan_core.proofs.RestsLemmas.{left_to_read}
use Rattle.yaml_scan_core.proofs.scanner.Scanner.read_on.Given as goal

abbrev pub invariant-batches : goal.invariant-batches
invariant-batches l = record {
  rests : Rests l.self;
  text : l.self.text.now ≡ l.initial.self.text.now;
  hands : HandsOn l.fn.self l.self;
  needs : l.fn.self.batch ≡ 1 → Needs l.fn.self l.self;
}

abbrev pub decreases-batches : goal.decreases-batches
decreases-batches l = left_to_read l.self
