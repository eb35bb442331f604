use Rattle.yaml_parse_laws_trees.proofs.Following.{windows_are_parsed}
use Rattle.yaml_parse_laws_trees.proofs.windows_laws.windows_are_parsed.Goals as goal

pub returns : goal.returns
returns c = windows_are_parsed
