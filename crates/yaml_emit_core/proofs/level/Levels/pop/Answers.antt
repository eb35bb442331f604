use Rattle.std.proofs.lemmas.List.{nil_from_length, append-nil}
use Rattle.std.proofs.Common.{[], ◌≡◌, ◌∙◌, ap, sym, subst, refl, arith, ◌<◌, ◌^◌}
use Rattle.yaml_emit_layout.specs.State.{top_of, place_at}
use Rattle.yaml_emit_core.specs.declared.level.Level.{Level}
use Rattle.yaml_emit_core.specs.Levels.{phase_of, place_of, level_of, stack, IsPlain}
use Rattle.yaml_emit_core.proofs.Stacks.{close_levels, close_narrow, close_open, close_place, last_levels, none_narrow}
use Rattle.yaml_emit_core.proofs.level.Levels.pop.Goals as goal

pub invariant_of-self : goal.invariant_of-self
invariant_of-self c =
    let n = close_narrow c.in-Some.open _ _ c.in-Some.ensures.items c.self.invariant.narrow_outer in
    let P : Level → Type 0 = λ z. z.indent < 2 ^ 31 in
    record { plain = λ e. absurd (close_open c.in-Some.open (ap (λ (z : Level). phase_of z.state) (sym c.level_in-self-inside.ensures) ∙ e)); outside = λ e. absurd (close_open c.in-Some.open (ap (λ (z : Level). phase_of z.state) (sym c.level_in-self-inside.ensures) ∙ e)); narrow = subst P (sym c.level_in-self-inside.ensures) n.0; narrow_outer = n.1 }

pub invariant_of-self-in-None : goal.invariant_of-self-in-None
invariant_of-self-in-None c =
    let old : c.self.inside.outer.items ≡ [] = nil_from_length _ (sym c.self.inside.outer.ok.0 ∙ c.in-None.ensures.cases.0) in
    let new : c.pop.new.self.items ≡ [] = sym (append-nil _) ∙ (sym c.in-None.ensures.items ∙ old) in
    let P : Level → Type 0 = λ z. z.indent < 2 ^ 31 in
    let Q : Level → Type 0 = λ z. IsPlain z in
    record { plain = subst Q (sym c.outside-self-inside.ensures) (λ _. (refl, refl)); outside = λ _. new; narrow = subst P (sym c.outside-self-inside.ensures) (omega arith); narrow_outer = none_narrow _ new }

pub returns-in-Some-clause-levels : goal.returns-in-Some-clause-levels
returns-in-Some-clause-levels c =
    rw (← c.self.view_is) (ap (λ (z : Level). stack (level_of z) c.pop.new.self.items) c.level_in-self-inside.ensures
    ∙ close_levels c.in-Some.open c.self.inside.top _ _ c.in-Some.ensures.items c.self.invariant.outside)

pub returns-in-Some-clause-place : goal.returns-in-Some-clause-place
returns-in-Some-clause-place c = λ unended.
    let P : Level → Type 0 = λ z. place_of z.state unended ≡ place_at (top_of (stack (level_of z) c.pop.new.self.items)) in
    subst P (sym c.level_in-self-inside.ensures) (close_place c.in-Some.open _ unended)

pub returns-in-None-clause-levels : goal.returns-in-None-clause-levels
returns-in-None-clause-levels c =
    rw (← c.self.view_is) (ap (λ (z : Level). stack (level_of z) c.pop.new.self.items) c.outside-self-inside.ensures
    ∙ last_levels c.self.inside.top _ (nil_from_length _ (sym c.self.inside.outer.ok.0 ∙ c.in-None.ensures.cases.0)))

pub returns-in-None-clause-place : goal.returns-in-None-clause-place
returns-in-None-clause-place c = λ unended.
    let P : Level → Type 0 = λ z. place_of z.state unended ≡ place_at (top_of (stack (level_of z) c.pop.new.self.items)) in
    subst P (sym c.outside-self-inside.ensures) refl
