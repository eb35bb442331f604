use Rattle.std.proofs.Common.{◌∙◌, ap, refl, sym}
use Rattle.std.specs.Prelude.{option_map}
use Rattle.yaml_emit_layout.specs.Tags.{split_tag}
use Rattle.yaml_emit_output.specs.Draft.{Page as Paper}
use Rattle.yaml_emit_core.specs.Levels.{opening}
use Rattle.yaml_emit_core.specs.Given.{start_in}
use Rattle.yaml_emit_core.specs.Views.{core_of}
use Rattle.yaml_emit_core.proofs.Fits.{start_fits}
use Rattle.yaml_emit_core.proofs.Laying.{laid, core_laid, holds_laid, wrong, core_refused, goes, right_put, takes_opening}
use Rattle.yaml_emit_core.proofs.Noting.{starved_lays}
use Rattle.yaml_emit_core.proofs.emitter.Core.lay_start.Goals as goal

pub invariant_of-self : goal.invariant_of-self
invariant_of-self c = core_refused c.self.inside _ c.self.invariant

pub lay_start-opened-requires-clause-on : goal.lay_start-opened-requires-clause-on
lay_start-opened-requires-clause-on c = c.self.invariant.on

pub lay_start-opened-requires-clause-step : goal.lay_start-opened-requires-clause-step
lay_start-opened-requires-clause-step c = c.self.invariant.step

pub lay_start-opened-requires-clause-due : goal.lay_start-opened-requires-clause-due
lay_start-opened-requires-clause-due c =
    let s = c.self.inside in
    let h = c.start_problem.ensures.stands in
    let q = start_in c.args.named.now c.args.implicit c.args.flow in
    (start_fits s.levels.state s.unended h.0 c.args.sequence h.1 s.levels.levels s.settings s.directives q h.2
    (sym (c.start_problem.ensures.problem s.settings s.unended c.args.sequence s.directives q refl c.kept_tag-tag.ensures) ∙ c.in-None.is)).0

pub lay_start-opened-requires-clause-name : goal.lay_start-opened-requires-clause-name
lay_start-opened-requires-clause-name c =
    let s = c.self.inside in
    let h = c.start_problem.ensures.stands in
    let q = start_in c.args.named.now c.args.implicit c.args.flow in
    (start_fits s.levels.state s.unended h.0 c.args.sequence h.1 s.levels.levels s.settings s.directives q h.2
    (sym (c.start_problem.ensures.problem s.settings s.unended c.args.sequence s.directives q refl c.kept_tag-tag.ensures) ∙ c.in-None.is)).1

pub settle-requires : goal.settle-requires
settle-requires c =
    let s = c.self.inside in
    let q = start_in c.args.named.now c.args.implicit c.args.flow in
    λ f. holds_laid s _ _ c.self.invariant (c.lay_start-opened.ensures.text s.unended s.directives q
    (record { names = record { name = refl; spelling = c.cut_tag_if.ensures ∙ ap (option_map (split_tag s.directives)) c.kept_tag-tag.ensures }; style = refl })) f

pub invariant_of-self-in-Err : goal.invariant_of-self-in-Err
invariant_of-self-in-Err c =
    let s = c.self.inside in
    let g = rw (← c.self.view_is) at c.requires in
    let q = start_in c.args.named.now c.args.implicit c.args.flow in
    core_laid s _ _ _ _ _ _ _ _ _ c.self.invariant (goes s g).0 (c.lay_start-opened.ensures.text s.unended s.directives q
    (record { names = record { name = refl; spelling = c.cut_tag_if.ensures ∙ ap (option_map (split_tag s.directives)) c.kept_tag-tag.ensures }; style = refl }))
    c.settle.ensures.settles c.settle.ensures.keeps c.settle.ensures.utf8

pub invariant_of-self-in-Ok : goal.invariant_of-self-in-Ok
invariant_of-self-in-Ok c =
    let s = c.self.inside in
    let g = rw (← c.self.view_is) at c.requires in
    let q = start_in c.args.named.now c.args.implicit c.args.flow in
    core_laid s _ _ _ _ _ _ _ _ _ c.self.invariant (goes s g).0 (c.lay_start-opened.ensures.text s.unended s.directives q
    (record { names = record { name = refl; spelling = c.cut_tag_if.ensures ∙ ap (option_map (split_tag s.directives)) c.kept_tag-tag.ensures }; style = refl }))
    c.settle.ensures.settles c.settle.ensures.keeps c.settle.ensures.utf8

pub returns-in-Some : goal.returns-in-Some
returns-in-Some c =
    let s = c.self.inside in
    let g = rw (← c.self.view_is) at c.requires in
    let q = start_in c.args.named.now c.args.implicit c.args.flow in
    rw (← c.self.view_is) (wrong s (opening c.args.sequence q) c.args.empty c.in-Some.problem c.self.invariant g
    (sym (c.start_problem.ensures.problem s.settings s.unended c.args.sequence s.directives q refl c.kept_tag-tag.ensures) ∙ c.in-Some.is))

pub returns-in-Ok : goal.returns-in-Ok
returns-in-Ok c =
    let s = c.self.inside in
    let g = rw (← c.self.view_is) at c.requires in
    let q = start_in c.args.named.now c.args.implicit c.args.flow in
    rw (← c.self.view_is) (laid s _ _ _ _ _ _ (opening c.args.sequence q) c.args.empty c.self.invariant g
    (sym (c.start_problem.ensures.problem s.settings s.unended c.args.sequence s.directives q refl c.kept_tag-tag.ensures) ∙ c.in-None.is)
    (c.lay_start-opened.ensures.text s.unended s.directives q
    (record { names = record { name = refl; spelling = c.cut_tag_if.ensures ∙ ap (option_map (split_tag s.directives)) c.kept_tag-tag.ensures }; style = refl }))
    c.settle.ensures.settles c.settle.ensures.keeps
    (λ now. c.in-Ok.ensures.state s.unended s.directives q
    (record { names = record { name = refl; spelling = c.cut_tag_if.ensures ∙ ap (option_map (split_tag s.directives)) c.kept_tag-tag.ensures }; style = refl }) (ap (λ (z : Paper). z.output.status) (sym (c.settle.ensures.keeps.going now)) ∙ now)))

pub returns-in-Err : goal.returns-in-Err
returns-in-Err c =
    let s = c.self.inside in
    let g = rw (← c.self.view_is) at c.requires in
    let q = start_in c.args.named.now c.args.implicit c.args.flow in
    rw (← c.self.view_is) (starved_lays (core_of s) _ _ (opening c.args.sequence q) c.args.empty (takes_opening c.args.sequence q) (goes s g).0 refl
    (right_put s _ _ _ (opening c.args.sequence q) c.args.empty c.self.invariant g
    (sym (c.start_problem.ensures.problem s.settings s.unended c.args.sequence s.directives q refl c.kept_tag-tag.ensures) ∙ c.in-None.is)
    (c.lay_start-opened.ensures.text s.unended s.directives q
    (record { names = record { name = refl; spelling = c.cut_tag_if.ensures ∙ ap (option_map (split_tag s.directives)) c.kept_tag-tag.ensures }; style = refl }))
    c.settle.ensures.settles c.settle.ensures.keeps) refl c.starve.ensures)
