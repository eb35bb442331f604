-- Each kind decides what its role decides, kind by kind.
use Rattle.std.proofs.Common.{arith}
use Rattle.yaml_scan_history.specs.Roles.{KindsHaveRoles}

pub kinds_have_roles : KindsHaveRoles
kinds_have_roles = grind arith
