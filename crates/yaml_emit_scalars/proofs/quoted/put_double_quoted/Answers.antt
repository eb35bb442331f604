use Rattle.yaml_emit_layout.specs.Layout.{letters}
use Rattle.yaml_emit_scalars.proofs.LaysLemmas.{lays_both, on_still}
use Rattle.yaml_emit_scalars.proofs.quoted.put_double_quoted.Goals as goal

pub put_quoted_body-requires : goal.put_quoted_body-requires
put_quoted_body-requires c = on_still _ _ _ _ _ (on_still _ _ _ _ _ c.requires c.put_gap.ensures) c.put_text.ensures

pub returns : goal.returns
unfolding letters
returns c = lays_both _ _ _ _ _ c.put_gap.ensures (lays_both _ _ _ _ _ c.put_text.ensures (lays_both _ _ _ _ _ c.put_quoted_body.ensures c.put_text-2.ensures))
