use Rattle.yaml_round_laws.proofs.WindowsJoining.{windows_are_accepted}
use Rattle.yaml_round_laws.proofs.windows_laws.windows_are_accepted.Goals as goal

pub returns : goal.returns
returns c = windows_are_accepted
