use Rattle.yaml_round_laws.proofs.SizesJoining.{contents_bounded}
use Rattle.yaml_round_laws.proofs.sizes_laws.contents_are_bounded.Goals as goal

pub returns : goal.returns
returns c = contents_bounded
