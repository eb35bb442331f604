use Rattle.std.proofs.Common.{◌≡◌, ◌∙◌, ap, subst}
use Rattle.std.specs.Prelude.{if◌then◌else◌, Some, None}
use Rattle.yaml_parse_model.specs.Events.{borrowed_body}
use Rattle.yaml_emit_layout.specs.Content.{emitter_event}
use Rattle.yaml_emit_layout.specs.State.{problem_at}
use Rattle.yaml_emit_core.specs.declared.level.State.{State}
use Rattle.yaml_emit_core.specs.Judged.{misplaced}
use Rattle.yaml_emit_core.specs.Levels.{state_at}
use Rattle.yaml_emit_core.proofs.Problems.{stands_on}
use Rattle.yaml_emit_core.proofs.Outer.{outer_judged}
use Rattle.yaml_emit_core.proofs.judge.outer_problem.Goals as goal

pub returns-clause-problem : goal.returns-clause-problem
returns-clause-problem c = λ s unended directives.
    let top = c.top.result.now in
    let ls = c.args.levels.now.levels in
    let e = emitter_event (borrowed_body c.args.event.now) in
    let P : State → Type 0 = λ z. c.place_if.result ≡ problem_at s (state_at (record { state = z; levels = ls }) unended directives) e in
    subst P c.top.ensures.state (c.place_if.ensures ∙ (ap (λ z. if z then None else Some (misplaced top.state)) c.fits.ensures ∙ outer_judged e top.state unended top.flow top.indent ls s directives c.requires.outer c.requires.other c.top.ensures.level))

pub returns-clause-stands : goal.returns-clause-stands
returns-clause-stands c = stands_on c.top.result.now.state c.top.result.now.flow c.top.result.now.indent c.args.levels.now c.top.ensures.state c.top.ensures.level
