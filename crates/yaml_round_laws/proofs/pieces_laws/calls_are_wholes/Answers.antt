use Rattle.yaml_round_laws.proofs.Calling.{calls}
use Rattle.yaml_round_laws.proofs.pieces_laws.calls_are_wholes.Goals as goal

pub returns : goal.returns
returns c = calls
