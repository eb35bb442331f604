use Rattle.std.proofs.Common.{◌≡◌, length}
use Rattle.std.specs.Str.{chars}
use Rattle.std.specs.Prelude.{IsUtf8}
use Rattle.yaml_emit_layout.specs.Scalars.{behind_breaks}
use Rattle.yaml_emit_scalars.proofs.block.behind_breaks.Given as goal

abbrev pub invariant-loop-c : goal.invariant-loop-c
invariant-loop-c l = IsUtf8 l.left × (behind_breaks (chars l.text) ≡ behind_breaks (chars l.left))

abbrev pub decreases-loop-c : goal.decreases-loop-c
decreases-loop-c l = length l.left
