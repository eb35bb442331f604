use Rattle.yaml_round_laws.proofs.Limits.{reloads}
use Rattle.yaml_round_laws.proofs.column.reloads_name_columns.Goals as goal

pub returns : goal.returns
returns c = reloads
