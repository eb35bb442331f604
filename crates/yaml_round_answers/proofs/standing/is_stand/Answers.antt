use mir.Syntax.{w32}
use mir.Val.{SFits}
use Rattle.std.proofs.Common.{◌∙◌, ap, rules}
use Rattle.std.proofs.lemmas.Int.{to_z-of_z}
use Rattle.yaml_round_answers.specs.Numbers.{is_set}
use Rattle.yaml_round_answers.proofs.Stands.{stand_is, first_is}
use Rattle.yaml_round_answers.proofs.standing.is_stand.Goals as goal

pub returns-then-is_set : goal.returns-then-is_set
returns-then-is_set c =
    let stand = c.args.stand.now in
    let fits : SFits w32 stand.place.encoding = search rules in
    stand_is stand.place stand.levels.now stand.directives.now stand.bytes.now _ _ (c.is_set.ensures ∙ ap is_set (to_z-of_z w32 stand.place.encoding fits)) c.if-is_set.true c.is_at.ensures

pub returns-else-is_set : goal.returns-else-is_set
returns-else-is_set c =
    let stand = c.args.stand.now in
    let fits : SFits w32 stand.place.encoding = search rules in
    first_is stand.place stand.levels.now stand.directives.now stand.bytes.now _ (c.is_set.ensures ∙ ap is_set (to_z-of_z w32 stand.place.encoding fits)) c.if-is_set.false
