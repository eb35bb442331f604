use Rattle.std.proofs.Common.{◌≡◌, ◌-◌, ◌≤◌, ℕ, List, length}
use Rattle.yaml_scan_model.specs.scan_types.Marks.{mark_at}
use Rattle.yaml_scan_core.specs.Lines.{IsLineStart}
use Rattle.yaml_scan_core.specs.Candidates.{AreStale, stack_of}
use Rattle.yaml_scan_core.proofs.keys.Keys.earliest.Given as goal

abbrev pub invariant-levels : goal.invariant-levels
invariant-levels l = record {
  same : stack_of l.self ≡ record (stack_of l.initial.self) { passed = l.self.passed };
  few : l.self.passed ≤ length l.self.levels.items;
  stale : (text : List ℕ) → IsLineStart text l.at l.line
      → AreStale text (stack_of l.initial.self) (mark_at text l.at)
      → AreStale text (stack_of l.self) (mark_at text l.at);
}

abbrev pub decreases-levels : goal.decreases-levels
decreases-levels l = length l.self.levels.items - l.self.passed
