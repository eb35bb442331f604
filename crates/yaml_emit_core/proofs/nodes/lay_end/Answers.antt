use Rattle.std.proofs.Common.{◌∙◌, ap, subst}
use Rattle.yaml_emit_layout.specs.State.{piece}
use Rattle.yaml_emit_layout.specs.Layout.{stay}
use Rattle.yaml_emit_output.specs.Draft.{Lays}
use Rattle.yaml_emit_core.specs.declared.level.State.{State}
use Rattle.yaml_emit_core.specs.Levels.{may_end, ending, state_at}
use Rattle.yaml_emit_core.proofs.Closings.{end_piece, end_next}
use Rattle.yaml_emit_core.proofs.nodes.lay_end.Goals as goal

pub returns-clause-text : goal.returns-clause-text
returns-clause-text c = λ unended empty directives.
    let s = c.args.settings.now in
    let ls = c.args.levels.now.levels in
    let top = c.top-level.result.now in
    let P : State → Type 0 = λ z. Lays c.args.draft.now c.put_end.new.draft (piece s (state_at (record { state = z; levels = ls }) unended directives) (ending c.args.sequence) empty) stay in
    subst P c.top-level.ensures.state (end_piece top.state unended ls top.flow top.indent c.bracket_of.result s directives c.args.sequence empty _ _ (ap (may_end c.args.sequence) c.top-level.ensures.state ∙ c.requires.due) c.top-level.ensures.level c.bracket_of.ensures.bracket c.put_end.ensures)

pub returns-clause-state : goal.returns-clause-state
returns-clause-state c = λ unended empty directives behind.
    end_next c.args.levels.now.state unended c.args.levels.now.levels c.args.settings.now directives c.args.sequence empty behind c.pop.new.self c.pop.ensures.levels (c.pop.ensures.place unended)
