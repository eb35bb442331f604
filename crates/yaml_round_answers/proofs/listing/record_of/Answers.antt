-- Each record means the event that it was made of.
use Rattle.std.proofs.Common.{refl}
use Rattle.yaml_round_answers.proofs.Recording.{events_recorded, document_recorded}
use Rattle.yaml_round_answers.proofs.listing.record_of.Goals as goal

pub returns-in_ok-base-in-DocumentStart : goal.returns-in_ok-base-in-DocumentStart
returns-in_ok-base-in-DocumentStart c =
    let d = c.in-DocumentStart in
    document_recorded _ _ c.args.event d.version_directive d.tag_directives d.implicit _ _ c.base_of-base.result c.in_ok-base-in-DocumentStart.field-0 d.is c.base_of-base.ensures
    c.in_ok-base-in-DocumentStart.ensures

pub returns-in_default : goal.returns-in_default
returns-in_default c = events_recorded _ _ c.args.event _ _ c.base_of-base.result c.with_texts.result c.in_default.not-DocumentStart c.base_of-base.ensures c.with_texts.ensures refl refl
