use Rattle.yaml_scan_laws.proofs.Signing.{signs_come, marks_come, printed_begins, level_is_out}
use Rattle.yaml_scan_laws.proofs.signs.laws_of_signs.Goals as goal

pub returns-clause-signs_come : goal.returns-clause-signs_come
returns-clause-signs_come c = signs_come

pub returns-clause-marks_come : goal.returns-clause-marks_come
returns-clause-marks_come c = marks_come

pub returns-clause-printed_begins : goal.returns-clause-printed_begins
returns-clause-printed_begins c = printed_begins

pub returns-clause-level_is_out : goal.returns-clause-level_is_out
returns-clause-level_is_out c = level_is_out
