use Rattle.yaml_round_laws.proofs.Rewriting.{answer_reads_back}
use Rattle.yaml_round_laws.proofs.laws.answers_read_back.Goals as goal

pub returns : goal.returns
returns c = answer_reads_back
