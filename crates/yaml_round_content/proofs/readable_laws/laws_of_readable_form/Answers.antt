use Rattle.yaml_round_content.proofs.ReadableJoining.{reads_back, tells, is_read, tells_inputs}
use Rattle.yaml_round_content.proofs.Restyling.{laid_out}
use Rattle.yaml_round_content.proofs.readable_laws.laws_of_readable_form.Goals as goal

pub returns-clause-readable_reads_back : goal.returns-clause-readable_reads_back
returns-clause-readable_reads_back c = reads_back

pub returns-clause-readable_tells_contents : goal.returns-clause-readable_tells_contents
returns-clause-readable_tells_contents c = tells

pub returns-clause-readable_is_read : goal.returns-clause-readable_is_read
returns-clause-readable_is_read c = is_read

pub returns-clause-readable_tells_inputs : goal.returns-clause-readable_tells_inputs
returns-clause-readable_tells_inputs c = tells_inputs

pub returns-clause-readable_is_laid_out : goal.returns-clause-readable_is_laid_out
returns-clause-readable_is_laid_out c = laid_out
