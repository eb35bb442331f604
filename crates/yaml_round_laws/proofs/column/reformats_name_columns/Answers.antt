use Rattle.yaml_round_laws.proofs.Limits.{reformats}
use Rattle.yaml_round_laws.proofs.column.reformats_name_columns.Goals as goal

pub returns : goal.returns
returns c = reformats
