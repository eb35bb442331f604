use Rattle.yaml_round_laws.proofs.Fitting.{reformats}
use Rattle.yaml_round_laws.proofs.size.reformats_fit.Goals as goal

pub returns : goal.returns
returns c = reformats
