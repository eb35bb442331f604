use Rattle.yaml_emit_scalars.proofs.LaysLemmas.{lays_both, on_still}
use Rattle.yaml_emit_core.proofs.scalars.put_long.Goals as goal

pub put_scalar-requires : goal.put_scalar-requires
put_scalar-requires c = on_still _ _ _ _ _ c.requires c.put_sign_if.ensures

pub returns : goal.returns
returns c = lays_both _ _ _ _ _ c.put_sign_if.ensures c.put_scalar.ensures
