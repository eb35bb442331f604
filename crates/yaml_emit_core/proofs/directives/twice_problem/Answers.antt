use Rattle.yaml_emit_core.proofs.Seeing.{adds_key}
use Rattle.yaml_emit_core.proofs.directives.twice_problem.Goals as goal

pub returns-then-branch-clause-adds : goal.returns-then-branch-clause-adds
returns-then-branch-clause-adds c = adds_key _ _ c.args.handle c.in_ok-insert.ensures.updates

pub returns-else-branch-clause-adds : goal.returns-else-branch-clause-adds
returns-else-branch-clause-adds c = adds_key _ _ c.args.handle c.in_ok-insert.ensures.updates
