use Rattle.std.proofs.Common.{◌∙◌}
use Rattle.yaml_emit_core.proofs.Stacks.{inside_is}
use Rattle.yaml_emit_core.proofs.level.State.is_inside.Goals as goal

pub returns : goal.returns
returns c = rw (c.is_entry.ensures, c.is_behind_simple.ensures) (inside_is c.args.self)
