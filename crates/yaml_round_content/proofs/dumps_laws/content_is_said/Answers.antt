use Rattle.yaml_round_content.proofs.DumpsSaying.{content_said}
use Rattle.yaml_round_content.proofs.dumps_laws.content_is_said.Goals as goal

pub returns : goal.returns
returns c = content_said
