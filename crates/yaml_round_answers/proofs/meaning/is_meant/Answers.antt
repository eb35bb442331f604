use Rattle.std.proofs.Common.{◌∙◌, ap, sym, Some}
use Rattle.yaml_round_answers.proofs.Checked.{start_meant, other_meant, none_meant, no_document}
use Rattle.yaml_round_answers.proofs.meaning.is_meant.Goals as goal

pub returns-in-DocumentStart : goal.returns-in-DocumentStart
returns-in-DocumentStart c =
    let d = c.in-DocumentStart in
    c.are_directives.ensures
    ∙ sym (start_meant _ _ c.args.given.now c.event_of.result d.version_directive d.tag_directives d.implicit (c.in-Some.is ∙ ap Some d.is) c.event_of.ensures)

pub returns-in_default-event : goal.returns-in_default-event
returns-in_default-event c =
    c.may_give.ensures ∙ other_meant _ _ c.args.given.now c.event_of.result c.in-Some.event c.in-Some.is (no_document c.in-Some.event c.in_default-event.not-DocumentStart) c.event_of.ensures

pub returns-in_default : goal.returns-in_default
returns-in_default c = none_meant _ _ c.args.given.now c.event_of.result c.in_default.not-Some c.event_of.ensures
