use Rattle.std.proofs.Common.{◌≡◌, ◌+◌, ◌-◌, ◌<◌, ◌≤◌, false, length}
use Rattle.yaml_scan_core.specs.Handed.{HandsOn}
use Rattle.yaml_scan_core.specs.Scanning.{Shows, history_of, read_by}
use Rattle.yaml_scan_core.proofs.scanner.Scanner.read_batch.Given as goal

abbrev pub invariant-steps : goal.invariant-steps
invariant-steps l = record {
  shows : Shows l.self (history_of l.self);
  some : 0 < read_by l.self;
  more : l.self.ended ≡ false;
  text : l.self.text.now ≡ l.initial.self.text.now;
  further : read_by l.initial.self ≤ read_by l.self;
  start : l.start ≡ read_by l.initial.self;
  hands : HandsOn l.initial.self l.self;
  first : l.initial.self.batch ≡ 1 → l.self ≡ l.initial.self;
}

abbrev pub decreases-steps : goal.decreases-steps
decreases-steps l = length l.self.text.now + 3 - read_by l.self
