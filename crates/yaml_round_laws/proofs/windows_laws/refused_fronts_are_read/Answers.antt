use Rattle.yaml_round_laws.proofs.WindowsJoining.{refused_fronts_are_read}
use Rattle.yaml_round_laws.proofs.windows_laws.refused_fronts_are_read.Goals as goal

pub returns : goal.returns
returns c = refused_fronts_are_read
