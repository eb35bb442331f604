use Rattle.yaml_round_laws.proofs.NormalForms.{tell}
use Rattle.yaml_round_laws.proofs.normalizing.normal_forms_tell_contents.Goals as goal

pub returns : goal.returns
returns c = tell
