-- What the call answers is what C receives.
use mir.Syntax.{w32}
use mir.Val.{SFits}
use Rattle.std.proofs.Common.{◌∙◌, rules}
use Rattle.yaml_round_answers.proofs.Refusing.{sides_answered, both_told, meant_so, unmeant}
use Rattle.yaml_round_answers.proofs.engine.compared_by.Goals as goal

pub returns-in-Some : goal.returns-in-Some
returns-in-Some c =
    let first : SFits w32 c.args.first_from = search rules in
    let second : SFits w32 c.args.second_from = search rules in
    meant_so _ c.both_of.result _ _ _ (c.both_of.ensures ∙ both_told c.args.first_from c.args.second_from first second) c.in-Some.is (sides_answered _ _ _ _ _ _ c.yaml_same.ensures c.same_told.ensures)

pub returns-in-None : goal.returns-in-None
returns-in-None c =
    let first : SFits w32 c.args.first_from = search rules in
    let second : SFits w32 c.args.second_from = search rules in
    unmeant _ c.both_of.result _ _ (c.both_of.ensures ∙ both_told c.args.first_from c.args.second_from first second) c.in-None.is c.misused.ensures
