use Rattle.yaml_round_content.proofs.AdaptedLemmas.{refused}
use Rattle.yaml_round_content.proofs.adapted_laws.tag_is_refused.Goals as goal

pub returns : goal.returns
returns c = refused
