-- What the call answers is what C receives.
use Rattle.std.proofs.Common.{◌≡◌, refl, true, rules}
use Rattle.yaml_parse.specs.scan_types.Faults.{fault_of}
use Rattle.yaml_round_answers.specs.Onward.{onward_of}
use Rattle.yaml_round_answers.specs.OnwardAnswers.{at_meant_by}
use Rattle.yaml_round_answers.proofs.EmittedPieces.{on_told, on_refused}
use Rattle.yaml_round_answers.proofs.onward_answer.onward_by.Goals as goal

pub returns-in-Ok-clause-told : goal.returns-in-Ok-clause-told
returns-in-Ok-clause-told c =
    let there : c.is_stand.result ≡ true = search rules in
    let yes : c.are_meant.result ≡ true = search rules in
    on_told _ _ _ _ c.asked_of.result c.in-Some.asked (at_meant_by c.args.stand.now) _ _ c.are_meant.ensures yes c.is_stand.ensures there c.asked_of.ensures c.in-Some.is
    (onward_of c.in-Ok.onward) _ c.in-Ok.ensures (c.text_answer.ensures, refl)

pub returns-in-Err-clause-told : goal.returns-in-Err-clause-told
returns-in-Err-clause-told c =
    let there : c.is_stand.result ≡ true = search rules in
    let yes : c.are_meant.result ≡ true = search rules in
    on_refused _ _ _ _ c.asked_of.result c.in-Some.asked (at_meant_by c.args.stand.now) _ _ c.are_meant.ensures yes c.is_stand.ensures there c.asked_of.ensures c.in-Some.is
    (fault_of c.in-Err.fault) _ refl c.in-Err.ensures c.refused.ensures
