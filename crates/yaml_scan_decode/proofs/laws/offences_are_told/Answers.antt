use Rattle.yaml_scan_decode.proofs.Rules as rules
use Rattle.yaml_scan_decode.proofs.laws.offences_are_told.Goals as goal

pub returns : goal.returns
returns c = rules.offences_are_told
