-- Where there is no memory for the text, that is reported.
use Rattle.yaml_round_answers.proofs.ScanTelling.{scan_starves}
use Rattle.yaml_round_answers.proofs.Refusing.{memory_refused}
use Rattle.yaml_round_answers.proofs.scanning.scanned.Goals as goal

pub returns-in-None : goal.returns-in-None
returns-in-None c = scan_starves _ _ _ _ c.nothing.ensures (memory_refused _ _ _ _ c.yaml_memory_fault.ensures c.refused_in.ensures)
