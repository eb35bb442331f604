use Rattle.yaml_emit_scalars.proofs.Folds.{lays_letters}
use Rattle.yaml_emit_scalars.proofs.quoted.put_hex_4.Goals as goal

pub returns : goal.returns
returns c = lays_letters _ _ _ _ _ c.put_hex_2.ensures c.put_hex_2-2.ensures
