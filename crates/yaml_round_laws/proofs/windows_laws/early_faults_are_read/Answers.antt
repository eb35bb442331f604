use Rattle.yaml_round_laws.proofs.Early.{early_faults_are_read}
use Rattle.yaml_round_laws.proofs.windows_laws.early_faults_are_read.Goals as goal

pub returns : goal.returns
returns c = early_faults_are_read
