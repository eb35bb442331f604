use Rattle.std.proofs.Common.{refl}
use Rattle.yaml_emit_scalars.proofs.style.seen_with.Goals as goal

pub returns : goal.returns
returns c = rw (c.is_special.ensures c.args.before, c.is_break.ensures, c.is_not_plain.ensures, c.is_not_flow.ensures c.args.before c.args.next) refl
