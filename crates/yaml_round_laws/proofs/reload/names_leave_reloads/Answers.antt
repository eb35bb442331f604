use Rattle.yaml_round_laws.proofs.Loads.{names}
use Rattle.yaml_round_laws.proofs.reload.names_leave_reloads.Goals as goal

pub returns : goal.returns
returns c = names
