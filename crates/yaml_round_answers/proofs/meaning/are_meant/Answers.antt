use Rattle.std.proofs.Common.{◌∙◌, rules}
use Rattle.std.proofs.lemmas.Iterator.{YieldsList-from_slice}
use Rattle.std.proofs.lemmas.Iterator.Search.{all_from_yields_List}
use Rattle.yaml_round_answers.specs.Records.{body_meant}
use Rattle.yaml_round_answers.specs.Checking.{is_event}
use Rattle.yaml_round_answers.proofs.Checked.{events_tested}
use Rattle.yaml_round_answers.proofs.meaning.are_meant.Goals as goal

pub returns : goal.returns
returns c =
    all_from_yields_List (λ r. is_event (body_meant c.args.bytes.now c.args.list.now r)) _ _ c.all.result c.all.ensures.ran (YieldsList-from_slice c.args.records.now cc) (λ x b q k. search rules)
    ∙ events_tested c.args.bytes.now c.args.list.now c.args.records.now
