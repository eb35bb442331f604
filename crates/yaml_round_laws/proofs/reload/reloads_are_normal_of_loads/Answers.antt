use Rattle.yaml_round_laws.proofs.Loads.{normal_of_loads}
use Rattle.yaml_round_laws.proofs.reload.reloads_are_normal_of_loads.Goals as goal

pub returns : goal.returns
returns c = normal_of_loads
