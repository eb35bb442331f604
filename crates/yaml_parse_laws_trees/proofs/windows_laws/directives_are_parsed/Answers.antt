use Rattle.yaml_parse_laws_trees.proofs.Beginning.{directives_are_parsed}
use Rattle.yaml_parse_laws_trees.proofs.windows_laws.directives_are_parsed.Goals as goal

pub returns : goal.returns
returns c = directives_are_parsed
