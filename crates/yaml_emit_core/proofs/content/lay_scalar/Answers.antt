use Rattle.std.proofs.Common.{◌≡◌, ◌∙◌, ap, sym, subst}
use Rattle.yaml_emit_layout.specs.Content as said
use Rattle.yaml_emit_layout.specs.State.{piece, next}
use Rattle.yaml_emit_layout.specs.Layout.{stay}
use Rattle.yaml_emit_output.specs.Draft.{Lays}
use Rattle.yaml_emit_core.specs.declared.level.State.{State}
use Rattle.yaml_emit_core.specs.Levels.{awaits_node, stepped, state_at}
use Rattle.yaml_emit_core.proofs.Texts.{scalar_piece, scalar_next}
use Rattle.yaml_emit_core.proofs.content.lay_scalar.Goals as goal

pub returns-clause-text : goal.returns-clause-text
returns-clause-text c = λ unended empty directives q h.
    let s = c.args.settings.now in
    let ls = c.args.levels.now.levels in
    let top = c.top-level.result.now in
    let simple = c.is_simple-simple.result in
    let P : State → Type 0 = λ z. Lays c.args.draft.now c.put_inside.new.draft (piece s (state_at (record { state = z; levels = ls }) unended directives) (said.scalar q) empty) stay in
    subst P c.top-level.ensures.state (scalar_piece top.state unended ls top.flow top.indent _ s directives c.args.scalar.now q empty simple _ _ _ _ _ _ _ h c.top-level.ensures.level c.is_simple-simple.ensures
    (c.is_in_flow-flow.ensures simple) (c.deeper.ensures.value simple) c.style_of-style.ensures c.is_marked.ensures.value
    c.put_before.ensures c.put_properties.ensures (rw c.page_of-page.ensures at c.put_inside.ensures))

pub returns-clause-state : goal.returns-clause-state
returns-clause-state c = λ unended empty directives q behind h.
    let s = c.args.settings.now in
    let now = c.args.levels.now in
    let top = c.top-level.result.now in
    let simple = c.is_simple-simple.result in
    let P : State → Type 0 = λ z. state_at c.step.new.self unended directives ≡ next s (state_at (record { state = z; levels = now.levels }) unended directives) (said.scalar q) empty behind in
    subst P c.top-level.ensures.state (scalar_next top.state unended now.levels top.flow top.indent s directives c.args.scalar.now q empty simple behind c.step.new.self h
    (ap awaits_node c.top-level.ensures.state ∙ c.requires.due) c.top-level.ensures.level c.is_simple-simple.ensures
    (c.step.ensures ∙ ap (λ z. stepped (record { state = z; levels = now.levels }) simple) (sym c.top-level.ensures.state)))
