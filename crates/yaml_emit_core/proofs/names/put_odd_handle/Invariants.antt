use Rattle.std.proofs.Common.{drop}
use Rattle.yaml_emit_output.specs.Draft.{Lays}
use Rattle.yaml_emit_layout.specs.Layout.{letters, word}
use Rattle.yaml_emit_core.proofs.names.put_odd_handle.Given as goal

abbrev pub invariant-loop-byte : goal.invariant-loop-byte
invariant-loop-byte l = Lays l.fn.draft l.draft (word l.handle) (letters (drop l.byte-index l.handle))
