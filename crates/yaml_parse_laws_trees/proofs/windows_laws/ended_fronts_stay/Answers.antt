use Rattle.yaml_parse_laws_trees.proofs.Staying.{ended_fronts_stay}
use Rattle.yaml_parse_laws_trees.proofs.windows_laws.ended_fronts_stay.Goals as goal

pub returns : goal.returns
returns c = ended_fronts_stay
