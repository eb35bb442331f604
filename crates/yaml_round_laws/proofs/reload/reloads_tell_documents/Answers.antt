use Rattle.yaml_round_laws.proofs.Loads.{tell}
use Rattle.yaml_round_laws.proofs.reload.reloads_tell_documents.Goals as goal

pub returns : goal.returns
returns c = tell
