use Rattle.yaml_round_laws.proofs.Joining.{stands}
use Rattle.yaml_round_laws.proofs.pieces_laws.stand_ins_stand.Goals as goal

pub returns : goal.returns
returns c = stands
