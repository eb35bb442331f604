use Rattle.yaml_round_laws.proofs.Comparing.{equivalence}
use Rattle.yaml_round_laws.proofs.laws.same_content_is_an_equivalence.Goals as goal

pub returns : goal.returns
returns c = equivalence
