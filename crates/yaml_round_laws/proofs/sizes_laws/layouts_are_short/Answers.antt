use Rattle.yaml_round_laws.proofs.SizesJoining.{layouts_short}
use Rattle.yaml_round_laws.proofs.sizes_laws.layouts_are_short.Goals as goal

pub returns : goal.returns
returns c = layouts_short
