use Rattle.yaml_round_laws.proofs.Rewriting.{still}
use Rattle.yaml_round_laws.proofs.laws.rewriting_is_still.Goals as goal

pub returns : goal.returns
returns c = still
