use Rattle.yaml_scan_history.proofs.HistoryLemmas.{take-handed}
use Rattle.yaml_scan_history.proofs.laws.settled_stays.Goals as goal

pub returns : goal.returns
returns c = λ text go n m room low. take-handed text go n m room low
