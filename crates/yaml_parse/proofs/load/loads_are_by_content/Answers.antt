use Rattle.yaml_parse_laws_trees.proofs.ByContent.{by_content}
use Rattle.yaml_parse.proofs.load.loads_are_by_content.Goals as goal

pub returns : goal.returns
returns c = by_content
