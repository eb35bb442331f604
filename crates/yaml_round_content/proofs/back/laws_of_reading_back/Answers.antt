use Rattle.yaml_round_content.proofs.ReadBack.{is_scanned, reads_back, tells_contents, inputs_read_back, tells_inputs, is_laid_out_again}
use Rattle.yaml_round_content.proofs.back.laws_of_reading_back.Goals as goal

pub returns-clause-canon_is_scanned : goal.returns-clause-canon_is_scanned
returns-clause-canon_is_scanned c = is_scanned

pub returns-clause-canon_reads_back : goal.returns-clause-canon_reads_back
returns-clause-canon_reads_back c = reads_back

pub returns-clause-canon_tells_contents : goal.returns-clause-canon_tells_contents
returns-clause-canon_tells_contents c = tells_contents

pub returns-clause-canonical_reads_back : goal.returns-clause-canonical_reads_back
returns-clause-canonical_reads_back c = inputs_read_back

pub returns-clause-canon_tells_inputs : goal.returns-clause-canon_tells_inputs
returns-clause-canon_tells_inputs c = tells_inputs

pub returns-clause-canon_is_laid_out_again : goal.returns-clause-canon_is_laid_out_again
returns-clause-canon_is_laid_out_again c = is_laid_out_again
