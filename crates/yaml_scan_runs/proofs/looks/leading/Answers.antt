use Rattle.yaml_scan_runs.proofs.Lanes.{leads}
use Rattle.yaml_scan_runs.proofs.looks.leading.Goals as goal

pub returns : goal.returns
returns c = λ test lanes long is. leads test lanes c.args.found long is
