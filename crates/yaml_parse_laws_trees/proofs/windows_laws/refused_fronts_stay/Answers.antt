use Rattle.yaml_parse_laws_trees.proofs.WindowsRefusing.{refused_fronts_stay}
use Rattle.yaml_parse_laws_trees.proofs.windows_laws.refused_fronts_stay.Goals as goal

pub returns : goal.returns
returns c = refused_fronts_stay
