use Rattle.std.proofs.Common.{sym, ◌∙◌}
use Rattle.yaml_emit_core.proofs.Directing.{walk_found}
use Rattle.yaml_emit_core.proofs.table.walked.Goals as goal

pub returns-then-has_shorter_prefix : goal.returns-then-has_shorter_prefix
returns-then-has_shorter_prefix c = walk_found _ _ _ _ _ c.loop-i-test.true c.index-directives-i.is c.deref.ensures.value c.loop-i.invariant (sym c.has_shorter_prefix.ensures.value ∙ c.if-has_shorter_prefix.true)
