use mir.Syntax.{w32}
use mir.Val.{SFits}
use Rattle.std.proofs.Common.{◌∙◌, ap, rules}
use Rattle.std.proofs.lemmas.Int.{to_z-of_z}
use Rattle.yaml_round_answers.specs.Leading.{requested}
use Rattle.yaml_round_answers.specs.Numbers.{is_set}
use Rattle.yaml_round_answers.proofs.Places.{few_stand, starts_first, starts_on}
use Rattle.yaml_round_answers.proofs.onward.emitter_from.Goals as goal

pub resumed-requires-clause-few : goal.resumed-requires-clause-few
resumed-requires-clause-few c =
    let given = c.args.given.now in
    let fits : SFits w32 given.place.encoding = search rules in
    few_stand given.place given.levels.now given.directives.now given.bytes.now _ (c.is_set.ensures ∙ ap is_set (to_z-of_z w32 given.place.encoding fits)) c.if-is_set.true c.requires.stand

pub returns-then-is_set-clause-starts : goal.returns-then-is_set-clause-starts
returns-then-is_set-clause-starts c =
    let given = c.args.given.now in
    let fits : SFits w32 given.place.encoding = search rules in
    starts_on c.resumed.result (requested c.args.asked.now) c.args.limit given.place given.levels.now given.directives.now given.bytes.now _
    (c.is_set.ensures ∙ ap is_set (to_z-of_z w32 given.place.encoding fits)) c.if-is_set.true c.resumed.ensures.starts

pub returns-else-is_set-clause-starts : goal.returns-else-is_set-clause-starts
returns-else-is_set-clause-starts c =
    let given = c.args.given.now in
    let fits : SFits w32 given.place.encoding = search rules in
    starts_first c.emitter_under.result (requested c.args.asked.now) c.args.limit given.place given.levels.now given.directives.now given.bytes.now _
    (c.is_set.ensures ∙ ap is_set (to_z-of_z w32 given.place.encoding fits)) c.if-is_set.false c.emitter_under.ensures.under
