use Rattle.yaml_emit_scalars.proofs.Styles.{tame_allows}
use Rattle.yaml_emit_scalars.proofs.style.allowed_by.Goals as goal

pub returns-then-is_tame : goal.returns-then-is_tame
returns-then-is_tame c = tame_allows c.args.unicode _ (rw c.as_bytes.ensures.value at (c.is_tame.ensures c.if-is_tame.true))
