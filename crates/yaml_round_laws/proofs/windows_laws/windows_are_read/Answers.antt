use Rattle.yaml_round_laws.proofs.WindowsJoining.{windows_are_read}
use Rattle.yaml_round_laws.proofs.windows_laws.windows_are_read.Goals as goal

pub returns : goal.returns
returns c = windows_are_read
