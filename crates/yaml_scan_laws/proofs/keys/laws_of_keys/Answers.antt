use Rattle.yaml_scan_laws.proofs.Keying.{key_begins, key_goes_on, key_ends}
use Rattle.yaml_scan_laws.proofs.keys.laws_of_keys.Goals as goal

pub returns-clause-key_begins : goal.returns-clause-key_begins
returns-clause-key_begins c = key_begins

pub returns-clause-key_goes_on : goal.returns-clause-key_goes_on
returns-clause-key_goes_on c = key_goes_on

pub returns-clause-key_ends : goal.returns-clause-key_ends
returns-clause-key_ends c = key_ends
