use Rattle.yaml_round_answers.proofs.Recording.{no_texts, scalar_put}
use Rattle.yaml_round_answers.proofs.listing.with_texts.Goals as goal

pub returns-in_ok-record-in-Scalar-2 : goal.returns-in_ok-record-in-Scalar-2
returns-in_ok-record-in-Scalar-2 c =
    let a = c.in-Scalar in
    let w = c.in_ok-record-in-Scalar in
    scalar_put _ _ _ c.args.base w.record c.args.event a.anchor a.tag a.value a.plain_implicit a.quoted_implicit a.style c.in_ok-record-in-Scalar-2.field-0 a.is
    w.ensures.put w.ensures.is c.in_ok-record-in-Scalar-2.ensures

pub returns-in_default : goal.returns-in_default
returns-in_default c =
    let d = c.in_default in
    no_texts c.args.event _ _ d.not-Alias d.not-Scalar d.not-SequenceStart d.not-MappingStart
