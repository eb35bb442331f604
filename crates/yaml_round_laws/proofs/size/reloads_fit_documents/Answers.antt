use Rattle.yaml_round_laws.proofs.Fitting.{reloads_fit}
use Rattle.yaml_round_laws.proofs.size.reloads_fit_documents.Goals as goal

pub returns : goal.returns
returns c = reloads_fit
