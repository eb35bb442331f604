use Rattle.yaml_scan_history.proofs.NamesRead.{anchor_is_read}
use Rattle.yaml_scan_history.proofs.words_laws.anchor_reads.Goals as goal

pub returns : goal.returns
returns c = anchor_is_read
