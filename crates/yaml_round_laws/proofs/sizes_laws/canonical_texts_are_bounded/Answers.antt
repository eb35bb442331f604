use Rattle.yaml_round_laws.proofs.SizesJoining.{bounded}
use Rattle.yaml_round_laws.proofs.sizes_laws.canonical_texts_are_bounded.Goals as goal

pub returns : goal.returns
returns c = bounded
