use Rattle.yaml_scan_history.proofs.Roles as roles
use Rattle.yaml_scan_history.proofs.laws.kinds_have_roles.Goals as goal

pub returns : goal.returns
returns c = roles.kinds_have_roles
