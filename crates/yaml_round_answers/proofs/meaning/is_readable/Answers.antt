use Rattle.yaml_round_answers.proofs.Checked.{readable}
use Rattle.yaml_round_answers.proofs.meaning.is_readable.Goals as goal

pub returns : goal.returns
returns c = readable _ _ c.is_utf8.ensures
