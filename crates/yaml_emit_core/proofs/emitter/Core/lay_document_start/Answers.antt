use Rattle.std.proofs.Common.{◌≡◌, ◌∙◌, ap, refl, subst, false}
use Rattle.yaml_emit_layout.specs.declared.Status.TheVariants.{Going}
use Rattle.yaml_emit_core.specs.Steps.{Core}
use Rattle.std.specs.Prelude.{Some, None}
use Rattle.yaml_emit_layout.specs.Content as said
use Rattle.yaml_emit_layout.specs.State.{problem_at}
use Rattle.yaml_emit_core.specs.Directives.{opening_of}
use Rattle.yaml_emit_core.specs.Levels.{state_at}
use Rattle.yaml_emit_core.proofs.Fits.{open_fits}
use Rattle.yaml_emit_core.proofs.Laying.{laid, core_laid, holds_laid, wrong, goes}
use Rattle.yaml_emit_core.proofs.Noting.{none_lays}
use Rattle.yaml_emit_core.proofs.emitter.Core.lay_document_start.Goals as goal

pub lay_document_start-requires-clause-outside : goal.lay_document_start-requires-clause-outside
lay_document_start-requires-clause-outside c =
    let s = c.self.inside in
    let o = opening_of c.args.opening.now in
    let told = c.in-Ok-None.ensures.problem s.settings s.unended s.directives in
    let right : problem_at s.settings (state_at s.levels s.unended s.directives) (said.document_start o) ≡ None = cc told in
    (open_fits s.levels s.unended s.settings s.directives o c.document_start_problem.ensures.stands right).0

pub lay_document_start-requires-clause-due : goal.lay_document_start-requires-clause-due
lay_document_start-requires-clause-due c =
    let s = c.self.inside in
    let o = opening_of c.args.opening.now in
    let told = c.in-Ok-None.ensures.problem s.settings s.unended s.directives in
    let right : problem_at s.settings (state_at s.levels s.unended s.directives) (said.document_start o) ≡ None = cc told in
    (open_fits s.levels s.unended s.settings s.directives o c.document_start_problem.ensures.stands right).1

pub settle-requires : goal.settle-requires
settle-requires c = let s = c.self.inside in λ f. holds_laid s _ _ c.self.invariant (c.lay_document_start.ensures.text false s.directives) f

pub invariant_of-self-in-Ok : goal.invariant_of-self-in-Ok
invariant_of-self-in-Ok c =
    let s = c.self.inside in
    let g = rw (← c.self.view_is) at c.requires in
    core_laid s _ _ _ _ _ _ _ _ _ c.self.invariant (goes s g).0 (c.lay_document_start.ensures.text false s.directives) c.settle.ensures.settles c.settle.ensures.keeps c.settle.ensures.utf8

pub returns-in-Err : goal.returns-in-Err
returns-in-Err c = λ empty.
    let s = c.self.inside in
    let g = rw (← c.self.view_is) at c.requires in
    let P : Core → Type 0 = λ z. z.sink.status ≡ Going in
    none_lays _ _ _ empty refl refl (subst P c.self.view_is (goes s g).0) c.starve.ensures

pub returns-in-Ok-Some : goal.returns-in-Ok-Some
returns-in-Ok-Some c = λ empty.
    let s = c.self.inside in
    let o = opening_of c.args.opening.now in
    let g = rw (← c.self.view_is) at c.requires in
    let told = c.in-Ok-Some.ensures.problem s.settings s.unended s.directives in
    let found : problem_at s.settings (state_at s.levels s.unended s.directives) (said.document_start o) ≡ Some c.in-Ok-Some.problem = cc told in
    rw (← c.self.view_is) (wrong s (said.document_start o) empty c.in-Ok-Some.problem c.self.invariant g found)

pub returns-in-Err-copied : goal.returns-in-Err-copied
returns-in-Err-copied c = λ empty.
    let s = c.self.inside in
    let g = rw (← c.self.view_is) at c.requires in
    let P : Core → Type 0 = λ z. z.sink.status ≡ Going in
    none_lays _ _ _ empty refl refl (subst P c.self.view_is (goes s g).0) c.starve-in-Err-copied.ensures

pub returns-in-Ok : goal.returns-in-Ok
returns-in-Ok c = λ empty.
    let s = c.self.inside in
    let o = opening_of c.args.opening.now in
    let g = rw (← c.self.view_is) at c.requires in
    let told = c.in-Ok-None.ensures.problem s.settings s.unended s.directives in
    let right : problem_at s.settings (state_at s.levels s.unended s.directives) (said.document_start o) ≡ None = cc told in
    rw (← c.self.view_is) (laid s _ _ _ _ s.unended _ (said.document_start o) empty c.self.invariant g right
    (c.lay_document_start.ensures.text empty s.directives) c.settle.ensures.settles c.settle.ensures.keeps
    (λ _. ap (state_at c.lay_document_start.new.levels s.unended) (c.put_table.ensures ∙ c.in-Ok.ensures) ∙ c.lay_document_start.ensures.state s.unended empty s.directives _))
