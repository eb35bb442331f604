use Rattle.std.proofs.Common.{refl}
use Rattle.yaml_scan_core.proofs.laws.lemmas.Goals as goal

pub returns : goal.returns
returns c = refl
