use Rattle.yaml_round_content.proofs.WritableContents.{are_writable}
use Rattle.yaml_round_content.proofs.writable_laws.inputs_are_writable.Goals as goal

pub returns : goal.returns
returns c = are_writable
