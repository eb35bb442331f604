use Rattle.yaml_round_laws.proofs.Rewriting.{shaped_stay}
use Rattle.yaml_round_laws.proofs.laws.json_stays_pretty.Goals as goal

pub returns : goal.returns
returns c = shaped_stay
