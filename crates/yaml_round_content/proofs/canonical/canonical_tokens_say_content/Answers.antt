use Rattle.yaml_round_content.proofs.ReadBackSaying.{tokens_say}
use Rattle.yaml_round_content.proofs.canonical.canonical_tokens_say_content.Goals as goal

pub returns : goal.returns
returns c = tokens_say
