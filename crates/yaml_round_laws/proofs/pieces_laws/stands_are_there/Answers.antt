use Rattle.yaml_round_laws.proofs.Leading.{there}
use Rattle.yaml_round_laws.proofs.pieces_laws.stands_are_there.Goals as goal

pub returns : goal.returns
returns c = there
