use Rattle.std.proofs.Common.{rules}
use Rattle.std.proofs.lemmas.Iterator.{YieldsList-from_slice}
use Rattle.std.proofs.lemmas.Iterator.Search.{all_from_yields_List}
use Rattle.yaml_round_answers.specs.Composing.{is_step}
use Rattle.yaml_round_answers.proofs.steps.are_steps.Goals as goal

pub returns : goal.returns
returns c =
    all_from_yields_List (is_step c.args.bytes.now) _ _ c.all.result c.all.ensures.ran (YieldsList-from_slice c.args.steps.now cc) (λ x b q k. search rules)
