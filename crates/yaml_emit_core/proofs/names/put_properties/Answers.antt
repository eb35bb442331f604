use Rattle.yaml_emit_scalars.proofs.LaysLemmas.{lays_both}
use Rattle.yaml_emit_core.proofs.names.put_properties.Goals as goal

pub returns : goal.returns
returns c = lays_both _ _ _ _ _ c.put_anchor_if.ensures c.put_tag_if.ensures
