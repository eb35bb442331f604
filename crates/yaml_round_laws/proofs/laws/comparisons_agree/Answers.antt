use Rattle.yaml_round_laws.proofs.Comparing.{agree}
use Rattle.yaml_round_laws.proofs.laws.comparisons_agree.Goals as goal

pub returns : goal.returns
returns c = agree
