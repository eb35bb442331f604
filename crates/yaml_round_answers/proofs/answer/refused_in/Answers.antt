-- The characters before both places are counted.
use Rattle.yaml_round_answers.proofs.Refusing.{counted_refused}
use Rattle.yaml_round_answers.proofs.answer.refused_in.Goals as goal

pub returns : goal.returns
returns c =
    counted_refused _ _ c.refused-answer.result _ _ c.characters_before-answer.ensures c.characters_before-answer-2.ensures c.refused-answer.ensures
