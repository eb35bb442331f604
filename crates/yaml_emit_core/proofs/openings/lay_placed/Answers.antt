use Rattle.std.proofs.Common.{◌∙◌, sym}
use Rattle.std.proofs.lemmas.Bool.{false≢true}
use Rattle.yaml_emit_core.proofs.Endings.{end_lays, end_state}
use Rattle.yaml_emit_core.proofs.Heads.{of_still, begin_lays, begin_state, stop_lays, stop_state}
use Rattle.yaml_emit_core.proofs.Outer.{unfit}
use Rattle.yaml_emit_core.proofs.openings.lay_placed.Goals as goal

pub put_dots_if-requires : goal.put_dots_if-requires
put_dots_if-requires c = of_still _ _ _ _ _ c.requires.on c.put_line.ensures

pub returns-in-StreamStart-clause-text : goal.returns-in-StreamStart-clause-text
returns-in-StreamStart-clause-text c = λ empty directives. rw c.in-StreamStart.is (begin_lays c.args.levels.now c.args.unended empty c.args.settings.now _ directives _ _ c.put_order_mark.ensures)

pub returns-in-StreamStart-clause-state : goal.returns-in-StreamStart-clause-state
returns-in-StreamStart-clause-state c = λ empty directives behind. rw c.in-StreamStart.is (begin_state c.args.settings.now c.args.levels.now _ c.args.unended empty _ directives behind c.turn.ensures)

pub returns-in-StreamEnd-clause-text : goal.returns-in-StreamEnd-clause-text
returns-in-StreamEnd-clause-text c = λ empty directives. rw c.in-StreamEnd.is (stop_lays c.args.levels.now c.args.unended empty c.args.settings.now directives _ _ (rw c.in-StreamEnd.is at c.requires.due) c.put_kept_dots.ensures)

pub returns-in-StreamEnd-clause-state : goal.returns-in-StreamEnd-clause-state
returns-in-StreamEnd-clause-state c = λ empty directives behind. rw c.in-StreamEnd.is (stop_state c.args.settings.now c.args.levels.now _ c.args.unended c.args.unended empty directives behind c.turn-in-StreamEnd.ensures)

pub returns-in-DocumentEnd-clause-text : goal.returns-in-DocumentEnd-clause-text
returns-in-DocumentEnd-clause-text c = λ empty directives. rw c.in-DocumentEnd.is (end_lays c.args.settings.now c.args.levels.now c.args.unended c.in-DocumentEnd.implicit empty directives _ _ _ c.put_line.ensures c.put_dots_if.ensures)

pub returns-in-DocumentEnd-clause-state : goal.returns-in-DocumentEnd-clause-state
returns-in-DocumentEnd-clause-state c = λ empty directives behind. rw c.in-DocumentEnd.is (end_state c.args.settings.now c.args.levels.now _ c.args.unended c.in-DocumentEnd.implicit empty directives behind c.turn-in-DocumentEnd.ensures)

pub returns-in_default-clause-text : goal.returns-in_default-clause-text
returns-in_default-clause-text c = absurd (false≢true (unfit c.args.event.now c.args.levels.now.state c.in_default.not-StreamStart c.in_default.not-StreamEnd c.in_default.not-DocumentEnd ∙ c.requires.due))

pub returns-in_default-clause-state : goal.returns-in_default-clause-state
returns-in_default-clause-state c = absurd (false≢true (unfit c.args.event.now c.args.levels.now.state c.in_default.not-StreamStart c.in_default.not-StreamEnd c.in_default.not-DocumentEnd ∙ c.requires.due))
