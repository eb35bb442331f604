use Rattle.std.proofs.Common.{true, false, nat_le, get_or, refl, arith}
use Rattle.std.proofs.lemmas.Bool.{agree_below_at}
use Rattle.yaml_emit_layout.specs.Tags.{suffix_keeps, keeps_byte}
use Rattle.yaml_emit_core.specs.declared.alphas.TheConstants.{NAMES}
use Rattle.yaml_emit_core.proofs.alphas.keeps_byte.Goals as goal

pub returns-then-wide : goal.returns-then-wide
unfolding suffix_keeps
returns-then-wide c = rw c.if-wide.true (agree_below_at (λ k. nat_le 49 (get_or NAMES k 0)) (keeps_byte true) 256 c.args.byte refl (omega arith))

pub returns-else-wide : goal.returns-else-wide
unfolding suffix_keeps
returns-else-wide c = rw c.if-wide.false (agree_below_at (λ k. nat_le 50 (get_or NAMES k 0)) (keeps_byte false) 256 c.args.byte refl (omega arith))
