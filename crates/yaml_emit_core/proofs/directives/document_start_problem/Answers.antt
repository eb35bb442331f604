use Rattle.std.proofs.Common.{◌≡◌, ◌∙◌, Bool, List, Option, Some, sym, subst}
use Rattle.std.proofs.lemmas.Result.{IfOk-weaker}
use Rattle.yaml_emit_layout.specs.declared.problem.Problem.{Problem}
use Rattle.yaml_emit_layout.specs.declared.Settings.{Settings}
use Rattle.yaml_parse_model.specs.Events.{TagDirective}
use Rattle.yaml_emit_layout.specs.Grammar.{opening_problem}
use Rattle.yaml_emit_layout.specs.Content as said
use Rattle.yaml_emit_layout.specs.State.{problem_at}
use Rattle.yaml_emit_core.specs.declared.level.State.{State}
use Rattle.yaml_emit_core.specs.Directives.{opening_of}
use Rattle.yaml_emit_core.specs.Levels.{state_at}
use Rattle.yaml_emit_core.proofs.Problems.{wrong_place, right_place, stands_on}
use Rattle.yaml_emit_core.proofs.directives.document_start_problem.Goals as goal

pub returns-in-Some-clause-problem : goal.returns-in-Some-clause-problem
returns-in-Some-clause-problem c = λ s unended directives.
    let top = c.top.result.now in
    let ls = c.args.levels.now.levels in
    let o = opening_of c.args.opening.now in
    let P : State → Type 0 = λ z. ◌≡◌ {A = Option Problem} (Some c.in-Some.problem) (problem_at s (state_at (record { state = z; levels = ls }) unended directives) (said.document_start o)) in
    subst P c.top.ensures.state (wrong_place top.state unended top.flow top.indent ls s directives o c.is_between.result c.in-Some.problem c.top.ensures.level c.is_between.ensures (sym c.place_if.ensures ∙ c.in-Some.is))

pub returns-in-None-clause-problem : goal.returns-in-None-clause-problem
returns-in-None-clause-problem c = IfOk-weaker c.opening_problem.result (λ p. p ≡ opening_problem (opening_of c.args.opening.now)) (λ p. (s : Settings) (unended : Bool) (directives : List TagDirective) → p ≡ problem_at s (state_at c.args.levels.now unended directives) (said.document_start (opening_of c.args.opening.now))) (λ p r s unended directives.
    let top = c.top.result.now in
    let ls = c.args.levels.now.levels in
    let o = opening_of c.args.opening.now in
    let P : State → Type 0 = λ z. p ≡ problem_at s (state_at (record { state = z; levels = ls }) unended directives) (said.document_start o) in
    subst P c.top.ensures.state (right_place top.state unended top.flow top.indent ls s directives o c.is_between.result p c.top.ensures.level c.is_between.ensures (sym c.place_if.ensures ∙ c.in-None.is) r)) c.opening_problem.ensures

pub returns-in-Some-clause-stands : goal.returns-in-Some-clause-stands
returns-in-Some-clause-stands c = stands_on c.top.result.now.state c.top.result.now.flow c.top.result.now.indent c.args.levels.now c.top.ensures.state c.top.ensures.level

pub returns-in-None-clause-stands : goal.returns-in-None-clause-stands
returns-in-None-clause-stands c = stands_on c.top.result.now.state c.top.result.now.flow c.top.result.now.indent c.args.levels.now c.top.ensures.state c.top.ensures.level
