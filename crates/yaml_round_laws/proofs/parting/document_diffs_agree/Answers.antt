use Rattle.yaml_round_laws.proofs.DocumentPartings.{agree}
use Rattle.yaml_round_laws.proofs.parting.document_diffs_agree.Goals as goal

pub returns : goal.returns
returns c = agree
