use Rattle.std.proofs.Common.{length, true}
use Rattle.std.specs.Str.{chars}
use Rattle.std.specs.Prelude.{IsUtf8}
use Rattle.yaml_emit_layout.specs.Scalars.{block_body}
use Rattle.yaml_emit_output.specs.Draft.{Lays}
use Rattle.yaml_emit_scalars.proofs.block.put_block_body.Given as goal

abbrev pub invariant-loop-c : goal.invariant-loop-c
invariant-loop-c l = IsUtf8 l.left × Lays l.fn.draft l.draft (block_body l.page l.folded true 10 (chars l.value)) (block_body l.page l.folded l.blank l.before (chars l.left))

abbrev pub decreases-loop-c : goal.decreases-loop-c
decreases-loop-c l = length l.left
