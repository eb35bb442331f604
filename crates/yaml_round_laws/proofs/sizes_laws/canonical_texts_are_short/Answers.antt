use Rattle.yaml_round_laws.proofs.SizesJoining.{texts_short}
use Rattle.yaml_round_laws.proofs.sizes_laws.canonical_texts_are_short.Goals as goal

pub returns : goal.returns
returns c = texts_short
