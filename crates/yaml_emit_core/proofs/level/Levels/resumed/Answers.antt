use Rattle.std.proofs.Common.{◌∙◌, ◌<◌, ◌^◌, ap, sym, subst}
use Rattle.std.specs.Prelude.{Option}
use Rattle.yaml_emit_layout.specs.declared.level.Level.{Level as Open}
use Rattle.yaml_emit_core.specs.declared.level.Level.{Level}
use Rattle.yaml_emit_core.specs.Levels.{phase_of, stack, AreNarrow}
use Rattle.yaml_emit_core.proofs.Stacks.{close_open, resumed_narrow}
use Rattle.yaml_emit_core.proofs.level.Levels.resumed.Goals as goal

pub invariant_of-t-7 : goal.invariant_of-t-7
invariant_of-t-7 c =
    let P : Option Open → Type 0 = λ z. AreNarrow (stack z c.args.outer.items) in
    let Q : Level → Type 0 = λ z. z.indent < 2 ^ 31 in
    let n = resumed_narrow c.in-Some.open c.args.outer.items (subst P c.in-Some.is c.requires.narrow) in
    record {
      plain = λ e. absurd (close_open c.in-Some.open (ap (λ (z : Level). phase_of z.state) (sym c.level_in.ensures) ∙ e));
      outside = λ e. absurd (close_open c.in-Some.open (ap (λ (z : Level). phase_of z.state) (sym c.level_in.ensures) ∙ e));
      narrow = subst Q (sym c.level_in.ensures) n.0;
      narrow_outer = n.1;
    }
