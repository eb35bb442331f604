use Rattle.yaml_round_laws.proofs.Fitting.{fits_content}
use Rattle.yaml_round_laws.proofs.size.limits_of_content_suffice.Goals as goal

pub returns : goal.returns
returns c = fits_content
