use Rattle.std.proofs.Common.{true, false, sym, ◌∙◌}
use Rattle.yaml_emit_core.proofs.TableLemmas.{defines_next}
use Rattle.yaml_emit_core.proofs.table.defines.Goals as goal

pub loop-directive-preserved : goal.loop-directive-preserved
loop-directive-preserved c = defines_next false _ _ _ _ _ c.loop-directive-test.true c.directive-item.is c.loop-directive.invariant (rw c.as_slice.ensures.value at (sym c.eq.ensures ∙ c.if-eq.false))

pub returns-then-eq : goal.returns-then-eq
returns-then-eq c = sym (defines_next true _ _ _ _ _ c.loop-directive-test.true c.directive-item.is c.loop-directive.invariant (rw c.as_slice.ensures.value at (sym c.eq.ensures ∙ c.if-eq.true)))
