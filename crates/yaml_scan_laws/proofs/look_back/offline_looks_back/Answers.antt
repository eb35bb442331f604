use Rattle.yaml_scan_laws.proofs.LookingBack.{offline_looks_back}
use Rattle.yaml_scan_laws.proofs.look_back.offline_looks_back.Goals as goal

pub returns : goal.returns
returns c = offline_looks_back
