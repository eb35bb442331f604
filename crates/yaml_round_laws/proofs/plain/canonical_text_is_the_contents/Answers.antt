use Rattle.yaml_round_laws.proofs.NormalForms.{reads_back, tells}
use Rattle.yaml_round_laws.proofs.plain.canonical_text_is_the_contents.Goals as goal

pub returns : goal.returns
returns c = record { back = reads_back; only = tells }
