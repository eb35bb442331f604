use Rattle.std.proofs.Common.{◌∙◌, sym, false}
use Rattle.yaml_emit_core.specs.Levels.{ending}
use Rattle.yaml_emit_core.proofs.Fits.{end_fits}
use Rattle.yaml_emit_core.proofs.Laying.{laid, core_laid, holds_laid, wrong, core_refused, goes}
use Rattle.yaml_emit_core.proofs.emitter.Core.lay_end.Goals as goal

pub invariant_of-self : goal.invariant_of-self
invariant_of-self c = core_refused c.self.inside _ c.self.invariant

pub lay_end-requires-clause-on : goal.lay_end-requires-clause-on
lay_end-requires-clause-on c = c.self.invariant.on

pub lay_end-requires-clause-due : goal.lay_end-requires-clause-due
lay_end-requires-clause-due c =
    let s = c.self.inside in
    let h = c.end_problem.ensures.stands in
    end_fits s.levels.state s.unended h.0 c.args.sequence h.1 s.levels.levels s.settings s.directives h.2 (sym (c.end_problem.ensures.problem s.settings s.unended s.directives) ∙ c.in-None.is)

pub settle-requires : goal.settle-requires
settle-requires c = let s = c.self.inside in λ f. holds_laid s _ _ c.self.invariant (c.lay_end.ensures.text s.unended false s.directives) f

pub invariant_of-self-in-None : goal.invariant_of-self-in-None
invariant_of-self-in-None c =
    let s = c.self.inside in
    let g = rw (← c.self.view_is) at c.requires in
    core_laid s _ _ _ _ _ _ _ _ _ c.self.invariant (goes s g).0 (c.lay_end.ensures.text s.unended false s.directives) c.settle.ensures.settles c.settle.ensures.keeps c.settle.ensures.utf8

pub returns-in-Some : goal.returns-in-Some
returns-in-Some c = λ empty.
    let s = c.self.inside in
    let g = rw (← c.self.view_is) at c.requires in
    rw (← c.self.view_is) (wrong s (ending c.args.sequence) empty c.in-Some.problem c.self.invariant g (sym (c.end_problem.ensures.problem s.settings s.unended s.directives) ∙ c.in-Some.is))

pub returns-in-None : goal.returns-in-None
returns-in-None c = λ empty.
    let s = c.self.inside in
    let g = rw (← c.self.view_is) at c.requires in
    rw (← c.self.view_is) (laid s _ _ _ _ _ _ (ending c.args.sequence) empty c.self.invariant g (sym (c.end_problem.ensures.problem s.settings s.unended s.directives) ∙ c.in-None.is)
    (c.lay_end.ensures.text s.unended empty s.directives) c.settle.ensures.settles c.settle.ensures.keeps (λ _. c.lay_end.ensures.state s.unended empty s.directives _))
