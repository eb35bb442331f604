use Rattle.std.proofs.Common.{◌≡◌, ◌∙◌, ap, sym, subst}
use Rattle.std.proofs.lemmas.Result.{on_ok_weaker}
use Rattle.std.specs.Prelude.{◌||◌}
use Rattle.yaml_emit_layout.specs.State.{piece, next, position_of}
use Rattle.yaml_emit_layout.specs.Layout.{stay}
use Rattle.yaml_emit_output.specs.Draft.{Lays}
use Rattle.yaml_emit_core.specs.declared.level.State.{State}
use Rattle.yaml_emit_core.specs.Levels.{level_of, awaits_node, opening, opened, stepped, state_at}
use Rattle.yaml_emit_core.proofs.Opened.{flow_same, start_piece, start_next}
use Rattle.yaml_emit_core.proofs.starts.lay_start.Goals as goal

pub returns-clause-text : goal.returns-clause-text
returns-clause-text c = λ unended directives q h.
    let s = c.args.settings.now in
    let o = c.args.start.now in
    let ls = c.args.levels.now.levels in
    let top = c.top-level.result.now in
    let simple = c.is_simple-simple.result in
    let P : State → Type 0 = λ z. Lays c.args.draft.now c.open.new.draft (piece s (state_at (record { state = z; levels = ls }) unended directives) (opening o.sequence q) o.empty) stay in
    subst P c.top-level.ensures.state (start_piece top.state unended ls top.flow top.indent _ _ s directives o q simple _ _ _ _ _ _ h c.top-level.ensures.level c.is_simple-simple.ensures
    (flow_same s (position_of (level_of top) simple) directives o q _ h (c.is_in_flow.ensures simple)) c.bracket_of.ensures.bracket (c.indent_of-indent.ensures.value simple)
    c.put_before.ensures c.put_properties.ensures c.put_opener.ensures c.open.ensures.text)

pub returns-clause-state : goal.returns-clause-state
returns-clause-state c = on_ok_weaker c.open.result (λ opens unended directives q h going.
    let s = c.args.settings.now in
    let o = c.args.start.now in
    let now = c.args.levels.now in
    let top = c.top-level.result.now in
    let simple = c.is_simple-simple.result in
    let P : State → Type 0 = λ z. state_at c.open.new.levels unended directives ≡ next s (state_at (record { state = z; levels = now.levels }) unended directives) (opening o.sequence q) o.empty c.open.new.draft.output.cursor in
    subst P c.top-level.ensures.state (start_next top.state _ unended now.levels top.flow top.indent _ s directives o q simple _ _ _ c.open.new.levels h
    (ap awaits_node c.top-level.ensures.state ∙ c.requires.due) c.top-level.ensures.level c.is_simple-simple.ensures
    (flow_same s (position_of (level_of top) simple) directives o q _ h (c.is_in_flow.ensures simple)) c.first_of.ensures (c.indent_of-indent.ensures.value simple) (c.open.ensures.cursor going)
    (opens going ∙ ap (λ z. opened (stepped (record { state = z; levels = now.levels }) simple) (record { state = c.first_of.result; flow = s.canonical || (c.is_in_flow.result || (o.flow || o.empty)); indent = c.indent_of-indent.result })) (sym c.top-level.ensures.state)))) c.open.ensures.state
