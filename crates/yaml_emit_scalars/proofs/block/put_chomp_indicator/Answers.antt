use Rattle.yaml_emit_scalars.proofs.LaysLemmas.{lays_both}
use Rattle.yaml_emit_scalars.proofs.block.put_chomp_indicator.Goals as goal

pub returns : goal.returns
returns c = lays_both _ _ _ _ _ c.put_char.ensures c.set_kept.ensures
