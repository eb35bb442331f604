use Rattle.std.proofs.Common.{◌≡◌, ◌∙◌, ap, sym, subst, length}
use Rattle.std.specs.Prelude.{◌&&◌, not, nat_le}
use Rattle.yaml_emit_layout.specs.Content as said
use Rattle.yaml_emit_layout.specs.State.{piece, next}
use Rattle.yaml_emit_layout.specs.Layout.{stay}
use Rattle.yaml_emit_output.specs.Draft.{Lays}
use Rattle.yaml_emit_scalars.proofs.LaysLemmas.{lays_both}
use Rattle.yaml_emit_core.specs.declared.level.State.{State}
use Rattle.yaml_emit_core.specs.Levels.{awaits_node, state_at, stepped}
use Rattle.yaml_emit_core.proofs.Aliases.{alias_lays, alias_piece, alias_next}
use Rattle.yaml_emit_core.proofs.nodes.lay_alias.Goals as goal

pub returns-clause-text : goal.returns-clause-text
returns-clause-text c = λ unended empty directives.
    let s = c.args.settings.now in
    let name = c.args.name.now in
    let ls = c.args.levels.now.levels in
    let top = c.top-level.result.now in
    let simple = ap (λ z. z && (not s.canonical && nat_le (length name) 128)) c.awaits_key.ensures in
    let P : State → Type 0 = λ z. Lays c.args.draft.now c.put_word.new.self (piece s (state_at (record { state = z; levels = ls }) unended directives) (said.alias name) empty) stay in
    subst P c.top-level.ensures.state (alias_piece top.state unended ls top.flow top.indent s directives name empty _ _ _ (ap awaits_node c.top-level.ensures.state ∙ c.requires.due) c.top-level.ensures.level simple
    (lays_both _ _ _ _ _ c.put_before.ensures (alias_lays _ _ name _ _ c.space_behind.ensures.mark c.put_word.ensures)))

pub returns-clause-state : goal.returns-clause-state
returns-clause-state c = λ unended empty directives behind.
    let s = c.args.settings.now in
    let name = c.args.name.now in
    let now = c.args.levels.now in
    let top = c.top-level.result.now in
    let test = c.awaits_key.result && (not s.canonical && nat_le (length name) 128) in
    let simple = ap (λ z. z && (not s.canonical && nat_le (length name) 128)) c.awaits_key.ensures in
    let P : State → Type 0 = λ z. state_at c.step.new.self unended directives ≡ next s (state_at (record { state = z; levels = now.levels }) unended directives) (said.alias name) empty behind in
    subst P c.top-level.ensures.state (alias_next top.state unended now.levels top.flow top.indent s directives name empty test behind c.step.new.self (ap awaits_node c.top-level.ensures.state ∙ c.requires.due) c.top-level.ensures.level simple
    (c.step.ensures ∙ ap (λ z. stepped (record { state = z; levels = now.levels }) test) (sym c.top-level.ensures.state)))
