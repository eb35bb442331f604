-- The flags are kept as they are.
use Rattle.std.proofs.Common.{◌∙◌, ap, sym}
use Rattle.yaml_round_answers.specs.Numbers.{flag_told}
use Rattle.yaml_round_answers.proofs.Recording.{mapped_some, properties_told}
use Rattle.yaml_round_answers.proofs.listing.with_properties.Goals as goal

pub returns-clause-is : goal.returns-clause-is
returns-clause-is c =
    let a = c.in_ok-record.ensures in
    let t = c.in_ok-record-2.ensures in
    properties_told _ _ c.args.base _ _ c.flag.result c.flag-2.result _ _ (c.flag.ensures.told ∙ ap flag_told (c.is_some.ensures ∙ sym (mapped_some c.args.anchor)))
    (c.flag-2.ensures.told ∙ ap flag_told (c.is_some-2.ensures ∙ sym (mapped_some c.args.tag))) a.is a.put t.is
