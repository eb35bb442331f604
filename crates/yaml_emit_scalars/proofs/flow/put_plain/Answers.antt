use Rattle.yaml_emit_scalars.proofs.LaysLemmas.{lays_both, on_still}
use Rattle.yaml_emit_scalars.proofs.flow.put_plain.Goals as goal

pub put_flow_body-requires : goal.put_flow_body-requires
put_flow_body-requires c = on_still _ _ _ _ _ c.requires c.put_gap_if.ensures

pub returns : goal.returns
returns c = lays_both _ _ _ _ _ (rw c.is_empty.ensures at c.put_gap_if.ensures) (lays_both _ _ _ _ _ c.put_flow_body.ensures c.set_after_text.ensures)
