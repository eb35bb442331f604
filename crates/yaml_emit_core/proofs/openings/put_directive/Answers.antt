use Rattle.yaml_emit_scalars.proofs.LaysLemmas.{lays_both}
use Rattle.yaml_emit_core.proofs.Heads.{of_still}
use Rattle.yaml_emit_core.proofs.openings.put_directive.Goals as goal

pub put_line-requires : goal.put_line-requires
put_line-requires c = of_still _ _ _ _ _ (of_still _ _ _ _ _ (of_still _ _ _ _ _ (of_still _ _ _ _ _ c.requires c.put_front.ensures) c.put_handle.ensures) c.put_gap.ensures) c.put_uri.ensures

pub returns : goal.returns
returns c = rw (← c.deref.ensures.value, ← c.deref-2.ensures.value) (lays_both _ _ _ _ _ c.put_front.ensures (lays_both _ _ _ _ _ c.put_handle.ensures (lays_both _ _ _ _ _ c.put_gap.ensures (lays_both _ _ _ _ _ c.put_uri.ensures c.put_line.ensures))))
