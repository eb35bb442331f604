use Rattle.std.proofs.Common.{◌≡◌, ◌∙◌, subst}
use Rattle.yaml_emit_layout.specs.State.{problem_at}
use Rattle.yaml_emit_core.specs.declared.level.State.{State}
use Rattle.yaml_emit_core.specs.Levels.{state_at, opening}
use Rattle.yaml_emit_core.proofs.Problems.{start_judged, stands_on}
use Rattle.yaml_emit_core.proofs.judge.start_problem.Goals as goal

pub returns-clause-problem : goal.returns-clause-problem
returns-clause-problem c = λ s unended sequence directives q a g.
    let top = c.top.result.now in
    let ls = c.args.levels.now.levels in
    let P : State → Type 0 = λ z. c.or_else-2.result ≡ problem_at s (state_at (record { state = z; levels = ls }) unended directives) (opening sequence q) in
    subst P c.top.ensures.state (rw (c.place_if.ensures, c.awaits_node.ensures, c.or_else.ensures, c.anchor_problem.ensures, c.tag_problem.ensures) at c.or_else-2.ensures ∙ start_judged top.state unended top.flow sequence top.indent ls s directives q _ _ c.top.ensures.level a g)

pub returns-clause-stands : goal.returns-clause-stands
returns-clause-stands c = stands_on c.top.result.now.state c.top.result.now.flow c.top.result.now.indent c.args.levels.now c.top.ensures.state c.top.ensures.level
