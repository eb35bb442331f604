use Rattle.yaml_scan_core.proofs.FollowsLemmas.{whatever_follows}
use Rattle.yaml_scan.proofs.laws.settled_is_told.Goals as goal

pub returns : goal.returns
returns c = whatever_follows
