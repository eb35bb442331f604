use Rattle.yaml_round_laws.proofs.Limits.{keeps}
use Rattle.yaml_round_laws.proofs.column.canonical_answers_keep_columns.Goals as goal

pub returns : goal.returns
returns c = keeps
