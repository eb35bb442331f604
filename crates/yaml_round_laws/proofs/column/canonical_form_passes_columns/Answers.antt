use Rattle.yaml_round_laws.proofs.Limits.{form_passes}
use Rattle.yaml_round_laws.proofs.column.canonical_form_passes_columns.Goals as goal

pub returns : goal.returns
returns c = form_passes
