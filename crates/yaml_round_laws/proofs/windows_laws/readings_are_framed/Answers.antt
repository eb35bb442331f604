use Rattle.yaml_round_laws.proofs.WindowsJoining.{readings_are_framed}
use Rattle.yaml_round_laws.proofs.windows_laws.readings_are_framed.Goals as goal

pub returns : goal.returns
returns c = readings_are_framed
