use Rattle.std.proofs.Common.{sym, ◌∙◌}
use Rattle.yaml_emit_scalars.proofs.LaysLemmas.{lays_same}
use Rattle.yaml_emit_scalars.proofs.run.put_run_or.Goals as goal

pub returns-then-is_break-clause-text : goal.returns-then-is_break-clause-text
returns-then-is_break-clause-text c = λ body keeps. lays_same _ _

pub returns-else-is_break-clause-text : goal.returns-else-is_break-clause-text
returns-else-is_break-clause-text c = λ body keeps. c.put_run.ensures.text body (keeps (sym c.is_break.ensures ∙ c.if-is_break.false))
