use Rattle.std.proofs.Common.{rules}
use Rattle.yaml_scan_types.proofs.class.IS_ASCII.Goals as goal

pub returns-in-Some : goal.returns-in-Some
returns-in-Some c = search rules

pub returns-in-None : goal.returns-in-None
returns-in-None c = search rules
