use Rattle.yaml_round_laws.proofs.Limits.{reloads_keep}
use Rattle.yaml_round_laws.proofs.column.reloads_keep_columns.Goals as goal

pub returns : goal.returns
returns c = reloads_keep
