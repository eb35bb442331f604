use Rattle.yaml_round_laws.proofs.Blocks.{blocks}
use Rattle.yaml_round_laws.proofs.pieces_laws.blocks_stand_by_levels.Goals as goal

pub returns : goal.returns
returns c = blocks
