use Rattle.std.proofs.Common.{map}
use Rattle.yaml_emit_core.specs.Prefixes.{entry_of}
use Rattle.yaml_emit_core.proofs.Narrowing.{Searching}
use Rattle.yaml_emit_core.proofs.prefixes.first_among.Given as goal

abbrev pub invariant-loop-depth : goal.invariant-loop-depth
invariant-loop-depth l = Searching (map entry_of l.entries) l.tag l.from l.to l.depth l.best
