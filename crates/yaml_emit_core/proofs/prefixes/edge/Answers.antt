use Rattle.std.proofs.Common.{ℕ, ◌≡◌, ◌+◌, ◌-◌, ◌≤◌, List, map, arith}
use Rattle.std.specs.Prelude.{◌/◌}
use Rattle.yaml_emit_core.specs.Prefixes.{Entry, key, at, entry_of}
use Rattle.yaml_emit_core.proofs.Sorting.{key_read}
use Rattle.yaml_emit_core.proofs.prefixes.edge.Goals as goal

pub loop-low-preserved-then-key-least : goal.loop-low-preserved-then-key-least
loop-low-preserved-then-key-least c =
    let middle : ℕ = c.loop-low.low + (c.loop-low.high - c.loop-low.low) / 2 in
    let xs : List Entry = map entry_of c.args.entries.now in
    let read : key (at xs middle).0 c.args.depth ≡ c.key.result = key_read c.args.entries.now middle _ _ c.index-entries-middle.result _ (omega arith) c.index-entries-middle.is c.deref.ensures.value c.key.ensures in
    record {
      from = omega arith;
      room = omega arith;
      to = omega arith;
      below = λ k a b. let less : key (at xs k).0 c.args.depth ≤ key (at xs middle).0 c.args.depth = c.requires.rises k middle a (omega arith) (omega arith) in omega arith;
      above = c.loop-low.invariant.above;
    }

pub loop-low-preserved : goal.loop-low-preserved
loop-low-preserved c =
    let middle : ℕ = c.loop-low.low + (c.loop-low.high - c.loop-low.low) / 2 in
    let xs : List Entry = map entry_of c.args.entries.now in
    let read : key (at xs middle).0 c.args.depth ≡ c.key.result = key_read c.args.entries.now middle _ _ c.index-entries-middle.result _ (omega arith) c.index-entries-middle.is c.deref.ensures.value c.key.ensures in
    record {
      from = omega arith;
      room = omega arith;
      to = omega arith;
      below = c.loop-low.invariant.below;
      above = λ k a b. let more : key (at xs middle).0 c.args.depth ≤ key (at xs k).0 c.args.depth = c.requires.rises middle k (omega arith) a b in omega arith;
    }
