use Rattle.yaml_round_laws.proofs.SizesJoining.{depths_take}
use Rattle.yaml_round_laws.proofs.sizes_laws.depths_take_bytes.Goals as goal

pub returns : goal.returns
returns c = depths_take
