use Rattle.yaml_round_laws.proofs.Fitting.{normal_forms}
use Rattle.yaml_round_laws.proofs.size.normal_forms_fit.Goals as goal

pub returns : goal.returns
returns c = normal_forms
