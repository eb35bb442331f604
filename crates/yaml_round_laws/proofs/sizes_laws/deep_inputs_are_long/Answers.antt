use Rattle.yaml_round_laws.proofs.SizesJoining.{deep_long}
use Rattle.yaml_round_laws.proofs.sizes_laws.deep_inputs_are_long.Goals as goal

pub returns : goal.returns
returns c = deep_long
