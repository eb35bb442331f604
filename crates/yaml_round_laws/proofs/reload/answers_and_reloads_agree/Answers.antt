use Rattle.yaml_round_laws.proofs.Loads.{agree}
use Rattle.yaml_round_laws.proofs.reload.answers_and_reloads_agree.Goals as goal

pub returns : goal.returns
returns c = agree
