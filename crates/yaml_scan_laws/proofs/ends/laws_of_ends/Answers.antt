use Rattle.yaml_scan_laws.proofs.Ending.{start_stands, end_is_read}
use Rattle.yaml_scan_laws.proofs.ends.laws_of_ends.Goals as goal

pub returns-clause-start_stands : goal.returns-clause-start_stands
returns-clause-start_stands c = start_stands

pub returns-clause-end_is_read : goal.returns-clause-end_is_read
returns-clause-end_is_read c = end_is_read
