use Rattle.yaml_round_laws.proofs.Rewriting.{tell}
use Rattle.yaml_round_laws.proofs.laws.canonical_answers_tell_contents.Goals as goal

pub returns : goal.returns
returns c = tell
