use Rattle.yaml_round_laws.proofs.Ended.{ended_faults_are_read}
use Rattle.yaml_round_laws.proofs.windows_laws.ended_faults_are_read.Goals as goal

pub returns : goal.returns
returns c = ended_faults_are_read
