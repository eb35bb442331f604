use Rattle.std.proofs.Common.{true, false, refl, sym, ◌∙◌, ap}
use Rattle.yaml_emit_layout.specs.Scalars.{chomp}
use Rattle.yaml_emit_scalars.proofs.Looks.{chomp_ends}
use Rattle.yaml_emit_scalars.proofs.block.chomp.Goals as goal

pub returns-in-None : goal.returns-in-None
unfolding chomp
returns-in-None c = sym (ap (chomp true true) c.in-None.ensures.letters)

pub returns-then-not-is_break : goal.returns-then-not-is_break
returns-then-not-is_break c = chomp_ends _ _ _ _ false c.in-Some.ensures.letters refl (sym c.if-not-is_break.true ∙ c.is_break.ensures)

pub returns-then-ends_in_break : goal.returns-then-ends_in_break
returns-then-ends_in_break c = chomp_ends _ _ _ true true c.in-Some.ensures.letters (sym c.if-ends_in_break.true ∙ c.ends_in_break.ensures) (sym c.if-not-is_break.false ∙ c.is_break.ensures)

pub returns-else-ends_in_break : goal.returns-else-ends_in_break
returns-else-ends_in_break c = chomp_ends _ _ _ false true c.in-Some.ensures.letters (sym c.if-ends_in_break.false ∙ c.ends_in_break.ensures) (sym c.if-not-is_break.false ∙ c.is_break.ensures)
