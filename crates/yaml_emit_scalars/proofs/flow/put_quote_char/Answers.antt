use Rattle.yaml_emit_scalars.proofs.LaysLemmas.{lays_both}
use Rattle.yaml_emit_scalars.proofs.flow.put_quote_char.Goals as goal

pub returns : goal.returns
returns c = lays_both _ _ _ _ _ c.put_char_if.ensures c.put_char.ensures
