use Rattle.yaml_round_content.proofs.AdaptedLemmas.{failed}
use Rattle.yaml_round_content.proofs.adapted_laws.fault_is_given.Goals as goal

pub returns : goal.returns
returns c = failed
