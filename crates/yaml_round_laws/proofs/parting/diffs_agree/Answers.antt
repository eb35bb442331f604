use Rattle.yaml_round_laws.proofs.Partings.{agree}
use Rattle.yaml_round_laws.proofs.parting.diffs_agree.Goals as goal

pub returns : goal.returns
returns c = agree
