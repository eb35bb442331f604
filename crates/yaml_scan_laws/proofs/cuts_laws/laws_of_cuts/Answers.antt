use Rattle.yaml_scan_laws.proofs.Windows.{windows_are_scanned}
use Rattle.yaml_scan_laws.proofs.Behind.{ended_windows_are_scanned}
use Rattle.yaml_scan_laws.proofs.Refused.{refused_fronts_are_scanned}
use Rattle.yaml_scan_laws.proofs.cuts_laws.laws_of_cuts.Goals as goal

pub returns-clause-windows_are_scanned : goal.returns-clause-windows_are_scanned
returns-clause-windows_are_scanned c = windows_are_scanned

pub returns-clause-ended_windows_are_scanned : goal.returns-clause-ended_windows_are_scanned
returns-clause-ended_windows_are_scanned c = ended_windows_are_scanned

pub returns-clause-refused_fronts_are_scanned : goal.returns-clause-refused_fronts_are_scanned
returns-clause-refused_fronts_are_scanned c = refused_fronts_are_scanned
