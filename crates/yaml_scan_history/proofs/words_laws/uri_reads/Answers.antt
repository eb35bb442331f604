use Rattle.yaml_scan_history.proofs.Words.{uri_text}
use Rattle.yaml_scan_history.proofs.HasLemmas.{has}
use Rattle.yaml_scan_history.proofs.UrisRead.{uri_is_read}
use Rattle.yaml_scan_history.proofs.words_laws.uri_reads.Goals as goal

pub returns : goal.returns
returns c = λ context wide text p pieces h is stop. uri_is_read context wide text p pieces (has text p (uri_text pieces) h) is stop
