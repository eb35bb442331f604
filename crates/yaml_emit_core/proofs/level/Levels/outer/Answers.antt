use Rattle.yaml_emit_core.proofs.Stacks.{outer_is}
use Rattle.yaml_emit_core.proofs.level.Levels.outer.Goals as goal

pub returns : goal.returns
returns c = rw (← c.self.view_is, ← c.deref.ensures.value) (outer_is c.self.inside.top _)
