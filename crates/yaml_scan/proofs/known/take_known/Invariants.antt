use Rattle.std.proofs.Common.{◌≡◌, [], length}
use Rattle.yaml_scan_core.specs.Handed.{to_come}
use Rattle.yaml_scan_core.specs.Told.{Locates}
use Rattle.yaml_scan.specs.Known.{Gives}
use Rattle.yaml_scan.proofs.known.take_known.Given as goal

abbrev pub invariant-known : goal.invariant-known
invariant-known l = record {
  gives : Gives l.fn.scanner l.scanner l.queue.known.items;
  some : l.queue.known.items ≡ [] → ⊥;
  locates : Locates l.scanner.text.now l.locator;
  taken : l.queue.taken ≡ l.fn.queue.taken;
}

abbrev pub decreases-known : goal.decreases-known
decreases-known l = length (to_come l.scanner).tokens
