use Rattle.yaml_round_laws.proofs.MarkRoots.{mark}
use Rattle.yaml_round_laws.proofs.mark.beginning_is_a_mark.Goals as goal

pub returns : goal.returns
returns c = mark
