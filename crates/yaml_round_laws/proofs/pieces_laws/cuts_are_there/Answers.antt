use Rattle.yaml_round_laws.proofs.Joining.{cuts}
use Rattle.yaml_round_laws.proofs.pieces_laws.cuts_are_there.Goals as goal

pub returns : goal.returns
returns c = cuts
