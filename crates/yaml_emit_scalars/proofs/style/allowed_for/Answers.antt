use Rattle.yaml_emit_scalars.proofs.Looks.{allowed_whole}
use Rattle.yaml_emit_scalars.proofs.style.allowed_for.Goals as goal

pub returns : goal.returns
returns c = rw (c.is_empty.ensures, c.look-last.ensures.seen, c.look-last.ensures.last, c.starts_badly.ensures) (allowed_whole c.args.unicode _)
