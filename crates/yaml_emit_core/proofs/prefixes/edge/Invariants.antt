use Rattle.std.proofs.Common.{◌-◌, ◌<◌, ◌≤◌, ℕ, map}
use Rattle.yaml_emit_core.specs.Prefixes.{key, at, entry_of}
use Rattle.yaml_emit_core.proofs.prefixes.edge.Given as goal

abbrev pub invariant-loop-low : goal.invariant-loop-low
invariant-loop-low l = record {
  from : l.from ≤ l.low;
  room : l.low ≤ l.high;
  to : l.high ≤ l.to;
  below : (k : ℕ) → l.from ≤ k → k < l.low
      → key (at (map entry_of l.entries) k).0 l.depth < l.least;
  above : (k : ℕ) → l.high ≤ k → k < l.to → l.least ≤ key (at (map entry_of l.entries) k).0 l.depth;
}

abbrev pub decreases-loop-low : goal.decreases-loop-low
decreases-loop-low l = l.high - l.low
