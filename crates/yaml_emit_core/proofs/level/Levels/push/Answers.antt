use Rattle.std.proofs.Common.{◌∙◌, sym}
use Rattle.yaml_emit_core.proofs.Stacks.{push_narrow, push_levels, first_levels, level_none}
use Rattle.yaml_emit_core.proofs.level.Levels.push.Goals as goal

pub invariant_of-self-in-Some : goal.invariant_of-self-in-Some
invariant_of-self-in-Some c =
    let s = c.self.invariant in
    record { plain = λ e. absurd (c.requires.open e); outside = λ e. absurd (c.requires.open e); narrow = c.requires.narrow; narrow_outer = push_narrow c.in-Some.open c.self.inside.top _ _ c.in_ok-push-in-Some.ensures.items (sym c.open_of.ensures ∙ c.in-Some.is) s.narrow s.narrow_outer }

pub invariant_of-self-in-None : goal.invariant_of-self-in-None
invariant_of-self-in-None c =
    let s = c.self.invariant in
    record { plain = λ e. absurd (c.requires.open e); outside = λ e. absurd (c.requires.open e); narrow = c.requires.narrow; narrow_outer = s.narrow_outer }

pub returns-in_ok-push-in-Some-clause-opened : goal.returns-in_ok-push-in-Some-clause-opened
returns-in_ok-push-in-Some-clause-opened c = rw (← c.self.view_is) (push_levels c.in-Some.open c.self.inside.top c.args.level _ _ c.in_ok-push-in-Some.ensures.items (sym c.open_of.ensures ∙ c.in-Some.is) c.requires.open)

pub returns-in-None-clause-opened : goal.returns-in-None-clause-opened
returns-in-None-clause-opened c =
    let top = c.self.inside.top in
    let none = sym c.open_of.ensures ∙ c.in-None.is in
    rw (← c.self.view_is) (first_levels top c.args.level _ none (c.self.invariant.outside (level_none _ top.flow top.indent none)) c.requires.open)
