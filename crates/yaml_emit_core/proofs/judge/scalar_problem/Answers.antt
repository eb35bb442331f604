use Rattle.std.proofs.Common.{◌≡◌, ◌∙◌, subst}
use Rattle.yaml_emit_layout.specs.Content as said
use Rattle.yaml_emit_layout.specs.State.{problem_at}
use Rattle.yaml_emit_core.specs.declared.level.State.{State}
use Rattle.yaml_emit_core.specs.Levels.{state_at}
use Rattle.yaml_emit_core.proofs.Problems.{scalar_judged, stands_on}
use Rattle.yaml_emit_core.proofs.judge.scalar_problem.Goals as goal

pub returns-clause-problem : goal.returns-clause-problem
returns-clause-problem c = λ s unended directives q a g w.
    let top = c.top.result.now in
    let ls = c.args.levels.now.levels in
    let P : State → Type 0 = λ z. c.or_else-3.result ≡ problem_at s (state_at (record { state = z; levels = ls }) unended directives) (said.scalar q) in
    subst P c.top.ensures.state (rw (c.or_else-2.ensures, c.place_if.ensures, c.awaits_node.ensures, c.flags_problem.ensures, c.or_else.ensures, c.anchor_problem.ensures, c.tag_problem.ensures) at c.or_else-3.ensures
    ∙ scalar_judged top.state unended top.flow top.indent ls s directives q _ _ c.args.flagged c.top.ensures.level a g w)

pub returns-clause-stands : goal.returns-clause-stands
returns-clause-stands c = stands_on c.top.result.now.state c.top.result.now.flow c.top.result.now.indent c.args.levels.now c.top.ensures.state c.top.ensures.level
