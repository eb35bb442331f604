use Rattle.yaml_round_laws.proofs.Beginning.{tells}
use Rattle.yaml_round_laws.proofs.laws.form_tells_beginning.Goals as goal

pub returns : goal.returns
returns c = tells
