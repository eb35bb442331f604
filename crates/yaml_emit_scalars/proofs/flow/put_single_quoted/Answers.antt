use Rattle.yaml_emit_scalars.proofs.LaysLemmas.{lays_both, on_still}
use Rattle.yaml_emit_scalars.proofs.flow.put_single_quoted.Goals as goal

pub put_flow_body-requires : goal.put_flow_body-requires
put_flow_body-requires c = on_still _ _ _ _ _ (on_still _ _ _ _ _ c.requires c.put_gap.ensures) c.put_char.ensures

pub returns : goal.returns
returns c = lays_both _ _ _ _ _ c.put_gap.ensures (lays_both _ _ _ _ _ c.put_char.ensures (lays_both _ _ _ _ _ c.put_flow_body.ensures c.put_char-2.ensures))
