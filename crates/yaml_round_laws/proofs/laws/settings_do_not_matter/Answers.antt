use Rattle.yaml_round_laws.proofs.Rewriting.{no_matter}
use Rattle.yaml_round_laws.proofs.laws.settings_do_not_matter.Goals as goal

pub returns : goal.returns
returns c = no_matter
