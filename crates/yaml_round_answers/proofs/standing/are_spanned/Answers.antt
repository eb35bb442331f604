use Rattle.std.proofs.Common.{◌∙◌, is_some, rules}
use Rattle.std.proofs.lemmas.Iterator.{YieldsList-from_slice}
use Rattle.std.proofs.lemmas.Iterator.Search.{all_from_yields_List}
use Rattle.yaml_round_answers.specs.Records.{directive_at}
use Rattle.yaml_round_answers.proofs.Stands.{spans_tested}
use Rattle.yaml_round_answers.proofs.standing.are_spanned.Goals as goal

pub returns : goal.returns
returns c =
    all_from_yields_List (λ d. is_some (directive_at c.args.bytes.now d)) _ _ c.all.result c.all.ensures.ran (YieldsList-from_slice c.args.list.now cc) (λ x b q k. search rules)
    ∙ spans_tested c.args.bytes.now c.args.list.now
