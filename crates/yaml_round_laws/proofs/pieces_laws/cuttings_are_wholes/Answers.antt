use Rattle.yaml_round_laws.proofs.Joining.{cut}
use Rattle.yaml_round_laws.proofs.pieces_laws.cuttings_are_wholes.Goals as goal

pub returns : goal.returns
returns c = cut
