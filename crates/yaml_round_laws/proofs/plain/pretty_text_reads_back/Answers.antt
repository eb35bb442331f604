use Rattle.yaml_round_laws.proofs.NormalForms.{pretty_back, pretty_lost}
use Rattle.yaml_round_laws.proofs.plain.pretty_text_reads_back.Goals as goal

pub returns : goal.returns
returns c = record { back = pretty_back; lost = pretty_lost }
