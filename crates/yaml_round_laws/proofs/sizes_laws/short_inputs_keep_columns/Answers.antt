use Rattle.yaml_round_laws.proofs.SizesJoining.{short_keeps}
use Rattle.yaml_round_laws.proofs.sizes_laws.short_inputs_keep_columns.Goals as goal

pub returns : goal.returns
returns c = short_keeps
