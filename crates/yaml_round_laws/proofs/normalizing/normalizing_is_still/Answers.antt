use Rattle.yaml_round_laws.proofs.NormalForms.{still}
use Rattle.yaml_round_laws.proofs.normalizing.normalizing_is_still.Goals as goal

pub returns : goal.returns
returns c = still
