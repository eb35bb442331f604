use Rattle.yaml_round_laws.proofs.Joining.{shown}
use Rattle.yaml_round_laws.proofs.pieces_laws.fronts_are_shown.Goals as goal

pub returns : goal.returns
returns c = shown
