use Rattle.std.proofs.Common.{sym, ◌∙◌}
use Rattle.yaml_scan_types.proofs.BreaksLemmas.{below_found, below_more}
use Rattle.yaml_scan_types.proofs.breaks.has_break.Goals as goal

pub returns-then-begins_break : goal.returns-then-begins_break
returns-then-begins_break c = sym (below_found _ _ _ c.loop-i-test.true (sym c.begins_break.ensures ∙ c.if-begins_break.true))

pub loop-i-preserved : goal.loop-i-preserved
loop-i-preserved c = below_more _ _ c.loop-i.invariant (sym c.begins_break.ensures ∙ c.if-begins_break.false)
