use Rattle.std.proofs.Common.{◌≡◌, ◌∙◌, ap, subst}
use Rattle.std.specs.Prelude.{if◌then◌else◌, Some, None}
use Rattle.yaml_emit_layout.specs.State.{problem_at}
use Rattle.yaml_emit_core.specs.declared.level.State.{State}
use Rattle.yaml_emit_core.specs.Judged.{misplaced}
use Rattle.yaml_emit_core.specs.Levels.{state_at, ending}
use Rattle.yaml_emit_core.proofs.Problems.{end_judged, stands_on}
use Rattle.yaml_emit_core.proofs.judge.end_problem.Goals as goal

pub returns-clause-problem : goal.returns-clause-problem
returns-clause-problem c = λ s unended directives.
    let top = c.top.result.now in
    let ls = c.args.levels.now.levels in
    let P : State → Type 0 = λ z. c.place_if.result ≡ problem_at s (state_at (record { state = z; levels = ls }) unended directives) (ending c.args.sequence) in
    subst P c.top.ensures.state (c.place_if.ensures ∙ (ap (λ z. if z then None else Some (misplaced top.state)) c.may_end.ensures ∙ end_judged top.state unended top.flow c.args.sequence top.indent ls s directives c.top.ensures.level))

pub returns-clause-stands : goal.returns-clause-stands
returns-clause-stands c = stands_on c.top.result.now.state c.top.result.now.flow c.top.result.now.indent c.args.levels.now c.top.ensures.state c.top.ensures.level
