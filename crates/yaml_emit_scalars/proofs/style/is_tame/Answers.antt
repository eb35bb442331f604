use Rattle.std.proofs.Common.{sym, ◌∙◌}
use Rattle.std.proofs.lemmas.Bool.{eqb-true}
use Rattle.yaml_emit_scalars.proofs.Styles.{starts, ends, begins_well, covered_calm}
use Rattle.yaml_emit_scalars.proofs.style.is_tame.Goals as goal

pub returns : goal.returns
returns c = λ h.
    let some = sym c.is_empty.ensures ∙ c.if-is_empty.false in
    record {
      calm = covered_calm _ _ c.requires (eqb-true _ 0 h);
      starts = starts _ some (λ b d. begins_well _ b d (sym c.is_of.ensures ∙ c.if-is_of.false));
      ends = ends _ some c.if-value-eq32.false;
    }
