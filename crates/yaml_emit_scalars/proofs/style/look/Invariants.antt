use Rattle.std.proofs.Common.{◌≡◌, length}
use Rattle.std.specs.Str.{chars}
use Rattle.std.specs.Prelude.{IsUtf8}
use Rattle.yaml_emit_layout.specs.Style.{looked, joined, last_or}
use Rattle.yaml_emit_scalars.proofs.style.look.Given as goal

abbrev pub invariant-loop-c : goal.invariant-loop-c
invariant-loop-c l = IsUtf8 l.left × (looked l.unicode 32 (chars l.value) ≡ joined l.all (looked l.unicode l.last (chars l.left))) × (last_or 32 (chars l.value) ≡ last_or l.last (chars l.left))

abbrev pub decreases-loop-c : goal.decreases-loop-c
decreases-loop-c l = length l.left
