use Rattle.yaml_round_laws.proofs.Loads.{of_loads}
use Rattle.yaml_round_laws.proofs.reload.reloads_are_of_loads.Goals as goal

pub returns : goal.returns
returns c = of_loads
