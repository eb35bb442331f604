use Rattle.std.proofs.Common.{◌∙◌, ap, sym, false}
use Rattle.yaml_parse_model.specs.Events.{borrowed_body}
use Rattle.yaml_emit_layout.specs.Content.{emitter_event}
use Rattle.yaml_emit_core.specs.Levels.{state_at}
use Rattle.yaml_emit_core.proofs.Outer.{outer_fits}
use Rattle.yaml_emit_core.proofs.Laying.{laid, core_laid, holds_laid, wrong, core_refused, goes}
use Rattle.yaml_emit_core.proofs.emitter.Core.lay_bare.Goals as goal

pub invariant_of-self : goal.invariant_of-self
invariant_of-self c = core_refused c.self.inside _ c.self.invariant

pub lay_placed-self-inside-requires-clause-on : goal.lay_placed-self-inside-requires-clause-on
lay_placed-self-inside-requires-clause-on c = c.self.invariant.on

pub lay_placed-self-inside-requires-clause-outside : goal.lay_placed-self-inside-requires-clause-outside
lay_placed-self-inside-requires-clause-outside c =
    let s = c.self.inside in
    (outer_fits s.levels s.unended s.settings s.directives (emitter_event (borrowed_body c.args.event.now)) c.requires.outer c.requires.other c.outer_problem.ensures.stands (sym (c.outer_problem.ensures.problem s.settings s.unended s.directives) ∙ c.in-None.is)).0

pub lay_placed-self-inside-requires-clause-due : goal.lay_placed-self-inside-requires-clause-due
lay_placed-self-inside-requires-clause-due c =
    let s = c.self.inside in
    (outer_fits s.levels s.unended s.settings s.directives (emitter_event (borrowed_body c.args.event.now)) c.requires.outer c.requires.other c.outer_problem.ensures.stands (sym (c.outer_problem.ensures.problem s.settings s.unended s.directives) ∙ c.in-None.is)).1

pub settle-requires : goal.settle-requires
settle-requires c = let s = c.self.inside in λ f. holds_laid s _ _ c.self.invariant (c.lay_placed-self-inside.ensures.text false s.directives) f

pub invariant_of-self-in-None : goal.invariant_of-self-in-None
invariant_of-self-in-None c =
    let s = c.self.inside in
    let g = rw (← c.self.view_is) at c.requires.going in
    core_laid s _ _ _ _ _ _ _ _ _ c.self.invariant (goes s g).0 (c.lay_placed-self-inside.ensures.text false s.directives) c.settle.ensures.settles c.settle.ensures.keeps c.settle.ensures.utf8

pub returns-in-Some : goal.returns-in-Some
returns-in-Some c = λ empty.
    let s = c.self.inside in
    let g = rw (← c.self.view_is) at c.requires.going in
    rw (← c.self.view_is) (wrong s (emitter_event (borrowed_body c.args.event.now)) empty c.in-Some.problem c.self.invariant g (sym (c.outer_problem.ensures.problem s.settings s.unended s.directives) ∙ c.in-Some.is))

pub returns-in-None : goal.returns-in-None
returns-in-None c = λ empty.
    let s = c.self.inside in
    let g = rw (← c.self.view_is) at c.requires.going in
    rw (← c.self.view_is) (laid s _ _ _ _ c.lay_placed-self-inside.result _ (emitter_event (borrowed_body c.args.event.now)) empty c.self.invariant g (sym (c.outer_problem.ensures.problem s.settings s.unended s.directives) ∙ c.in-None.is)
    (c.lay_placed-self-inside.ensures.text empty s.directives) c.settle.ensures.settles c.settle.ensures.keeps (λ _. ap (state_at c.lay_placed-self-inside.new.levels c.lay_placed-self-inside.result) c.clear.ensures ∙ c.lay_placed-self-inside.ensures.state empty s.directives _))
