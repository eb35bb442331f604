use Rattle.yaml_round_content.proofs.AdaptedLemmas.{adapted_utf8}
use Rattle.yaml_round_content.proofs.adapted_laws.adapted_is_utf8.Goals as goal

pub returns : goal.returns
returns c = adapted_utf8
