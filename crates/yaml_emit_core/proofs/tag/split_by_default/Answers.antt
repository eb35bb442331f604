use Rattle.std.proofs.Common.{true, false, refl, sym, ◌∙◌}
use Rattle.yaml_emit_core.proofs.TableLemmas.{by_defaults}
use Rattle.yaml_emit_core.proofs.tag.split_by_default.Goals as goal

pub returns-then-stands_for : goal.returns-then-stands_for
returns-then-stands_for c = rw c.suffix_behind.ensures (by_defaults _ _ true _ (rw c.defines_primary.ensures at (sym c.stands_for.ensures.value ∙ c.if-stands_for.true)) refl)

pub returns-then-stands_for-2 : goal.returns-then-stands_for-2
returns-then-stands_for-2 c = rw c.suffix_behind-then-stands_for-2.ensures (by_defaults _ _ false true (rw c.defines_primary.ensures at (sym c.stands_for.ensures.value ∙ c.if-stands_for.false)) (rw c.defines_secondary.ensures at (sym c.stands_for-else-stands_for.ensures.value ∙ c.if-stands_for-2.true)))

pub returns-else-stands_for-2 : goal.returns-else-stands_for-2
returns-else-stands_for-2 c = by_defaults _ _ false false (rw c.defines_primary.ensures at (sym c.stands_for.ensures.value ∙ c.if-stands_for.false)) (rw c.defines_secondary.ensures at (sym c.stands_for-else-stands_for.ensures.value ∙ c.if-stands_for-2.false))
