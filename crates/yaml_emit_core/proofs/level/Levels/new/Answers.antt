use Rattle.yaml_emit_core.proofs.Stacks.{narrow_none}
use Rattle.yaml_emit_core.proofs.level.Levels.new.Goals as goal

pub resumed-requires-clause-narrow : goal.resumed-requires-clause-narrow
resumed-requires-clause-narrow c = narrow_none
