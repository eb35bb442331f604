use Rattle.std.proofs.Common.{true, false, nat_le, get_or, refl, arith}
use Rattle.yaml_scan_text.proofs.Words.{NAMES, agree_below_at}
use Rattle.yaml_scan_text.proofs.Bytes.{is_alpha_byte, is_digit_byte, is_punctuation, is_wide_punctuation, is_kept}
use Rattle.yaml_scan_text.proofs.class.is_of_uri.Goals as goal

pub returns-then-wide : goal.returns-then-wide
unfolding is_alpha_byte is_digit_byte is_punctuation is_wide_punctuation
returns-then-wide c = rw c.if-wide.true (agree_below_at (λ k. nat_le 49 (get_or NAMES k 0)) (is_kept true) 256 c.args.byte refl (omega arith))

pub returns-else-wide : goal.returns-else-wide
unfolding is_alpha_byte is_digit_byte is_punctuation is_wide_punctuation
returns-else-wide c = rw c.if-wide.false (agree_below_at (λ k. nat_le 50 (get_or NAMES k 0)) (is_kept false) 256 c.args.byte refl (omega arith))
