use Rattle.yaml_round_laws.proofs.JsonJoining.{json_is_read}
use Rattle.yaml_round_laws.proofs.json_laws.json_is_read.Goals as goal

pub returns : goal.returns
returns c = json_is_read
