use Rattle.yaml_emit_scalars.proofs.LaysLemmas.{lays_both}
use Rattle.yaml_emit_core.proofs.Heads.{of_still}
use Rattle.yaml_emit_core.proofs.openings.put_version.Goals as goal

pub put_line-requires : goal.put_line-requires
put_line-requires c = of_still _ _ _ _ _ (of_still _ _ _ _ _ c.requires c.put_front.ensures) c.put_version_word.ensures

pub returns-in-Some : goal.returns-in-Some
returns-in-Some c = rw c.in-Some.is (lays_both _ _ _ _ _ c.put_front.ensures (lays_both _ _ _ _ _ c.put_version_word.ensures c.put_line.ensures))
