use Rattle.yaml_parse_laws_trees.proofs.Staying.{refused_tokens_stay}
use Rattle.yaml_parse_laws_trees.proofs.windows_laws.refused_tokens_stay.Goals as goal

pub returns : goal.returns
returns c = refused_tokens_stay
