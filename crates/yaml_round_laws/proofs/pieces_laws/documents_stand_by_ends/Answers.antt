use Rattle.yaml_round_laws.proofs.Between.{between}
use Rattle.yaml_round_laws.proofs.pieces_laws.documents_stand_by_ends.Goals as goal

pub returns : goal.returns
returns c = between
