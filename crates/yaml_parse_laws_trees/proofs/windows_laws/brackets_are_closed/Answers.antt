use Rattle.yaml_parse_laws_trees.proofs.Following.{brackets_are_closed}
use Rattle.yaml_parse_laws_trees.proofs.windows_laws.brackets_are_closed.Goals as goal

pub returns : goal.returns
returns c = brackets_are_closed
