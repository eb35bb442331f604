use Rattle.std.proofs.Common.{◌∙◌, ap, refl, sym, subst, List, ℕ, length, false}
use Rattle.std.specs.Prelude.{option_map}
use Rattle.yaml_emit_layout.specs.Content as said
use Rattle.yaml_emit_layout.specs.Tags.{split_tag}
use Rattle.yaml_emit_scalars.specs.Classes.{Covers}
use Rattle.yaml_emit_core.specs.Given.{scalar_in}
use Rattle.yaml_emit_core.proofs.Fits.{scalar_fits}
use Rattle.yaml_emit_core.proofs.Lending.{flagged}
use Rattle.yaml_emit_core.proofs.Laying.{laid, core_laid, holds_laid, wrong, core_refused, goes}
use Rattle.yaml_emit_core.proofs.emitter.Core.lay_scalar.Goals as goal

pub invariant_of-self : goal.invariant_of-self
invariant_of-self c = core_refused c.self.inside _ c.self.invariant

pub lay_scalar-requires-clause-on : goal.lay_scalar-requires-clause-on
lay_scalar-requires-clause-on c = c.self.invariant.on

pub lay_scalar-requires-clause-step : goal.lay_scalar-requires-clause-step
lay_scalar-requires-clause-step c = c.self.invariant.step

pub lay_scalar-requires-clause-due : goal.lay_scalar-requires-clause-due
lay_scalar-requires-clause-due c =
    let s = c.self.inside in
    let h = c.scalar_problem.ensures.stands in
    let q = scalar_in c.args.named.now c.args.value.now in
    (scalar_fits s.levels.state s.unended h.0 h.1 s.levels.levels s.settings s.directives q h.2
    (sym (c.scalar_problem.ensures.problem s.settings s.unended s.directives q refl c.kept_tag-tag.ensures (flagged (λ t. t.now) c.args.named.now.tag _ _ c.is_some.ensures)) ∙ c.in-None.is)).0

pub lay_scalar-requires-clause-name : goal.lay_scalar-requires-clause-name
lay_scalar-requires-clause-name c =
    let s = c.self.inside in
    let h = c.scalar_problem.ensures.stands in
    let q = scalar_in c.args.named.now c.args.value.now in
    (scalar_fits s.levels.state s.unended h.0 h.1 s.levels.levels s.settings s.directives q h.2
    (sym (c.scalar_problem.ensures.problem s.settings s.unended s.directives q refl c.kept_tag-tag.ensures (flagged (λ t. t.now) c.args.named.now.tag _ _ c.is_some.ensures)) ∙ c.in-None.is)).1

pub lay_scalar-requires-clause-classes : goal.lay_scalar-requires-clause-classes
lay_scalar-requires-clause-classes c =
    let P : List ℕ → Type 0 = λ z. Covers c.classes_of.result z 0 (length z) in
    subst P (sym c.text_in.ensures) c.classes_of.ensures

pub settle-requires : goal.settle-requires
settle-requires c =
    let s = c.self.inside in
    let q = scalar_in c.args.named.now c.args.value.now in
    λ f. holds_laid s _ _ c.self.invariant (c.lay_scalar.ensures.text s.unended false s.directives q
    (record { names = record { name = refl; spelling = c.cut_tag_if.ensures ∙ ap (option_map (split_tag s.directives)) c.kept_tag-tag.ensures }; text = c.text_in.ensures; untagged = refl; unquoted = refl; wanted = refl })) f

pub invariant_of-self-in-None : goal.invariant_of-self-in-None
invariant_of-self-in-None c =
    let s = c.self.inside in
    let g = rw (← c.self.view_is) at c.requires.going in
    let q = scalar_in c.args.named.now c.args.value.now in
    core_laid s _ _ _ _ _ _ _ _ _ c.self.invariant (goes s g).0 (c.lay_scalar.ensures.text s.unended false s.directives q
    (record { names = record { name = refl; spelling = c.cut_tag_if.ensures ∙ ap (option_map (split_tag s.directives)) c.kept_tag-tag.ensures }; text = c.text_in.ensures; untagged = refl; unquoted = refl; wanted = refl }))
    c.settle.ensures.settles c.settle.ensures.keeps c.settle.ensures.utf8

pub returns-in-Some : goal.returns-in-Some
returns-in-Some c = λ empty.
    let s = c.self.inside in
    let g = rw (← c.self.view_is) at c.requires.going in
    let q = scalar_in c.args.named.now c.args.value.now in
    rw (← c.self.view_is) (wrong s (said.scalar q) empty c.in-Some.problem c.self.invariant g
    (sym (c.scalar_problem.ensures.problem s.settings s.unended s.directives q refl c.kept_tag-tag.ensures (flagged (λ t. t.now) c.args.named.now.tag _ _ c.is_some.ensures)) ∙ c.in-Some.is))

pub returns-in-None : goal.returns-in-None
returns-in-None c = λ empty.
    let s = c.self.inside in
    let g = rw (← c.self.view_is) at c.requires.going in
    let q = scalar_in c.args.named.now c.args.value.now in
    rw (← c.self.view_is) (laid s _ _ _ _ _ _ (said.scalar q) empty c.self.invariant g
    (sym (c.scalar_problem.ensures.problem s.settings s.unended s.directives q refl c.kept_tag-tag.ensures (flagged (λ t. t.now) c.args.named.now.tag _ _ c.is_some.ensures)) ∙ c.in-None.is)
    (c.lay_scalar.ensures.text s.unended empty s.directives q
    (record { names = record { name = refl; spelling = c.cut_tag_if.ensures ∙ ap (option_map (split_tag s.directives)) c.kept_tag-tag.ensures }; text = c.text_in.ensures; untagged = refl; unquoted = refl; wanted = refl }))
    c.settle.ensures.settles c.settle.ensures.keeps
    (λ _. c.lay_scalar.ensures.state s.unended empty s.directives q _
    (record { names = record { name = refl; spelling = c.cut_tag_if.ensures ∙ ap (option_map (split_tag s.directives)) c.kept_tag-tag.ensures }; text = c.text_in.ensures; untagged = refl; unquoted = refl; wanted = refl })))
