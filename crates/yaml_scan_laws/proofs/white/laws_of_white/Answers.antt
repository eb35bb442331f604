use Rattle.yaml_scan_laws.proofs.Whites.{white_begins, white_goes_on, white_is_taken, white_is_over, white_is_passed, white_meets, key_is_allowed}
use Rattle.yaml_scan_laws.proofs.white.laws_of_white.Goals as goal

pub returns-clause-white_begins : goal.returns-clause-white_begins
returns-clause-white_begins c = white_begins

pub returns-clause-white_goes_on : goal.returns-clause-white_goes_on
returns-clause-white_goes_on c = white_goes_on

pub returns-clause-white_is_taken : goal.returns-clause-white_is_taken
returns-clause-white_is_taken c = white_is_taken

pub returns-clause-white_is_over : goal.returns-clause-white_is_over
returns-clause-white_is_over c = white_is_over

pub returns-clause-white_is_passed : goal.returns-clause-white_is_passed
returns-clause-white_is_passed c = white_is_passed

pub returns-clause-white_meets : goal.returns-clause-white_meets
returns-clause-white_meets c = white_meets

pub returns-clause-key_is_allowed : goal.returns-clause-key_is_allowed
returns-clause-key_is_allowed c = key_is_allowed
