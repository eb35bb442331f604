use Rattle.yaml_scan_history.proofs.GapsRead.{gap_is_read}
use Rattle.yaml_scan_history.proofs.words_laws.gap_reads.Goals as goal

pub returns : goal.returns
returns c = gap_is_read
