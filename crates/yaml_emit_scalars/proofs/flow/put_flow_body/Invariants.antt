use Rattle.std.proofs.Common.{length}
use Rattle.std.specs.Str.{chars}
use Rattle.std.specs.Prelude.{IsUtf8}
use Rattle.yaml_emit_layout.specs.Scalars.{flow_body}
use Rattle.yaml_emit_output.specs.Draft.{Lays}
use Rattle.yaml_emit_scalars.proofs.flow.put_flow_body.Given as goal

abbrev pub invariant-loop-c : goal.invariant-loop-c
invariant-loop-c l = IsUtf8 l.left × Lays l.fn.draft l.draft (flow_body l.page l.quote 32 (chars l.value)) (flow_body l.page l.quote l.last (chars l.left))

abbrev pub decreases-loop-c : goal.decreases-loop-c
decreases-loop-c l = length l.left
