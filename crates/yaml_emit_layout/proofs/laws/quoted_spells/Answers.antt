use Rattle.yaml_emit_layout.proofs.Spelled.{quoted-spells}
use Rattle.yaml_emit_layout.proofs.laws.quoted_spells.Goals as goal

pub returns : goal.returns
returns c = quoted-spells
