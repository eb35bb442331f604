use Rattle.std.proofs.Common.{nat_eq, get_or, refl, arith}
use Rattle.std.proofs.lemmas.Bool.{agree_below_at}
use Rattle.yaml_scan_types.specs.Classes.{is_alpha_byte, is_digit_byte}
use Rattle.yaml_emit_core.specs.declared.alphas.TheConstants.{NAMES}
use Rattle.yaml_emit_core.proofs.alphas.is_alpha.Goals as goal

pub returns : goal.returns
unfolding is_alpha_byte is_digit_byte
returns c = agree_below_at (λ k. nat_eq (get_or NAMES k 0) 52) is_alpha_byte 256 c.args.byte refl (omega arith)
