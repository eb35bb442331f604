use Rattle.std.proofs.Common.{◌≡◌, ◌+◌, ℕ, List, length}
use Rattle.yaml_scan_core.specs.Margins.{AreLevels}
use Rattle.yaml_scan_core.proofs.MarginsLemmas.{AreLeft}
use Rattle.yaml_scan_core.proofs.levels.Levels.close_down_to.Given as goal

abbrev pub invariant-levels : goal.invariant-levels
invariant-levels l = record {
  left : (ls : List ℕ) → AreLevels l.initial.self ls → AreLeft l.column l.ends l.self ls;
  fewer : l.ends + length l.self.outer.items ≡ length l.initial.self.outer.items;
}

abbrev pub decreases-levels : goal.decreases-levels
decreases-levels l = length l.self.outer.items
