use Rattle.yaml_round_content.proofs.AdaptedLemmas.{taken}
use Rattle.yaml_round_content.proofs.adapted_laws.front_is_given.Goals as goal

pub returns : goal.returns
returns c = taken
