use Rattle.yaml_round_content.proofs.ReadBackInjective.{streams_known}
use Rattle.yaml_round_content.proofs.kept_laws.streams_are_known.Goals as goal

pub returns : goal.returns
returns c = streams_known
