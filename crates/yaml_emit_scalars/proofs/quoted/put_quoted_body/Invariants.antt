use Rattle.std.proofs.Common.{length}
use Rattle.std.specs.Str.{chars}
use Rattle.std.specs.Prelude.{IsUtf8}
use Rattle.yaml_emit_layout.specs.Quoted.{quoted_body}
use Rattle.yaml_emit_output.specs.Draft.{Lays}
use Rattle.yaml_emit_scalars.proofs.quoted.put_quoted_body.Given as goal

abbrev pub invariant-loop-c : goal.invariant-loop-c
invariant-loop-c l = IsUtf8 l.left × Lays l.fn.draft l.draft (quoted_body l.page 32 (chars l.value)) (quoted_body l.page l.last (chars l.left))

abbrev pub decreases-loop-c : goal.decreases-loop-c
decreases-loop-c l = length l.left
