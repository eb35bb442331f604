-- What the call answers is what C receives.
use mir.Syntax.{w32}
use mir.Val.{SFits}
use Rattle.std.proofs.Common.{◌∙◌, rules, sym, subst}
use Rattle.yaml_round_answers.specs.Told.{TellsMisuse}
use Rattle.yaml_round_answers.proofs.PartingExact.{parts_so, parts_unmeant}
use Rattle.yaml_round_answers.proofs.Refusing.{both_told}
use Rattle.yaml_round_answers.proofs.parting.parted_by.Goals as goal

pub returns-in-Some : goal.returns-in-Some
returns-in-Some c =
    let first : SFits w32 c.args.first_from = search rules in
    let second : SFits w32 c.args.second_from = search rules in
    parts_so _ c.both_of.result _ _ _ (c.both_of.ensures ∙ both_told c.args.first_from c.args.second_from first second) c.in-Some.is record { result = c.yaml_diff.result; is = c.yaml_diff.ensures; told = c.parting_told.ensures }

pub returns-in-None : goal.returns-in-None
returns-in-None c =
    let first : SFits w32 c.args.first_from = search rules in
    let second : SFits w32 c.args.second_from = search rules in
    parts_unmeant _ c.both_of.result _ _ (c.both_of.ensures ∙ both_told c.args.first_from c.args.second_from first second) c.in-None.is
    (subst TellsMisuse (sym c.without_place.ensures.answer) c.misused.ensures, c.without_place.ensures.nowhere)
