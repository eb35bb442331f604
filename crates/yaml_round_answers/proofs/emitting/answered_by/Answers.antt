-- What the call answers is what C receives.
use Rattle.std.proofs.Common.{◌≡◌, true, rules}
use Rattle.yaml_round_answers.proofs.Telling.{emit_answered}
use Rattle.yaml_round_answers.proofs.emitting.answered_by.Goals as goal

pub returns : goal.returns
returns c =
    let yes : c.are_meant.result ≡ true = search rules in
    emit_answered _ _ c.asked_of.result c.in-Some.asked _ _ c.are_meant.result c.are_meant.ensures yes c.asked_of.ensures c.in-Some.is c.emitted.ensures c.answer_told.ensures
