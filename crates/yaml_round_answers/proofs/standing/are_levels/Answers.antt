use Rattle.std.proofs.Common.{◌∙◌, is_some, rules}
use Rattle.std.proofs.lemmas.Iterator.{YieldsList-from_slice}
use Rattle.std.proofs.lemmas.Iterator.Search.{all_from_yields_List}
use Rattle.yaml_round_answers.specs.Standing.{level_meant}
use Rattle.yaml_round_answers.proofs.Stands.{levels_tested}
use Rattle.yaml_round_answers.proofs.standing.are_levels.Goals as goal

pub returns : goal.returns
returns c =
    all_from_yields_List (λ l. is_some (level_meant l)) _ _ c.all.result c.all.ensures.ran (YieldsList-from_slice c.args.levels.now cc) (λ x b q k. search rules)
    ∙ levels_tested c.args.levels.now
