use Rattle.yaml_emit_layout.proofs.Encodes.{utf8-encodes}
use Rattle.yaml_emit_layout.proofs.laws.utf8_encodes.Goals as goal

pub returns : goal.returns
returns c = utf8-encodes
