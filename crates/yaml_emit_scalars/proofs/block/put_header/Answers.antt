use Rattle.yaml_emit_scalars.proofs.LaysLemmas.{lays_both}
use Rattle.yaml_emit_scalars.proofs.block.put_header.Goals as goal

pub returns : goal.returns
returns c =
    lays_both _ _ _ _ _ c.put_gap.ensures
    (lays_both _ _ _ _ _ (rw c.opening.ensures at c.put_char.ensures) (lays_both _ _ _ _ _ (rw (c.is_break.ensures, c.digit_char.ensures, c.first-c.ensures) at c.put_char_if.ensures) (rw c.chomp.ensures at c.put_chomp.ensures)))
