use Rattle.yaml_round_answers.proofs.Places.{listed_mean, listed_texts, told_stand}
use Rattle.std.proofs.Common.{◌∙◌, ap}
use Rattle.std.specs.Prelude.{Some}
use Rattle.yaml_round_answers.specs.Standing.{levels_meant}
use Rattle.yaml_round_answers.proofs.Stands.{levels_back}
use Rattle.yaml_round_answers.proofs.onward.somewhere.Goals as goal

pub returns : goal.returns
returns c =
    let directives = listed_mean _ _ _ _ c.new-listing.ensures.1 c.in_ok-push_directives.ensures in
    let texts = listed_texts _ _ _ _ c.new-listing.ensures.2 c.in_ok-push_directives.ensures in
    let levels = ap levels_meant c.in_ok-levels.ensures ∙ levels_back _ ∙ ap (λ z. Some z) c.outer_if.ensures in
    told_stand c.args.emitter.now _ c.yaml_emitter_stand-stand.result _ _ _ _ _ c.requires c.yaml_emitter_stand-stand.ensures c.yaml_emitter_outer.ensures
    c.yaml_emitter_directives.ensures c.place_told-place.ensures levels directives texts c.handed_out.ensures c.handed_out-2.ensures c.handed_out-3.ensures
