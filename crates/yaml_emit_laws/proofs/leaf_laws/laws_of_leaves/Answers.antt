use Rattle.yaml_emit_laws.proofs.LeafProps.{properties_on}
use Rattle.yaml_emit_laws.proofs.LeafNodes.{leaves_on, blocks_on}
use Rattle.yaml_emit_laws.proofs.Stopping.{has_gap, stands, are_words, quoted_stands}
use Rattle.yaml_emit_laws.proofs.SpokenWords.{plain_on, single_on}
use Rattle.yaml_emit_layout.proofs.Spelled.{quoted-spells}
use Rattle.yaml_emit_laws.proofs.Back.{quoted_back}
use Rattle.yaml_emit_laws.proofs.Parts.{single_spelling_reads}
use Rattle.yaml_emit_laws.proofs.Styles.{styles_allowed}
use Rattle.yaml_emit_laws.proofs.leaf_laws.laws_of_leaves.Goals as goal

pub returns-clause-properties_are_walked : goal.returns-clause-properties_are_walked
returns-clause-properties_are_walked c = properties_on

pub returns-clause-leaves_are_walked : goal.returns-clause-leaves_are_walked
returns-clause-leaves_are_walked c = leaves_on (plain_on has_gap stands are_words) (single_on (quoted_stands single_spelling_reads) are_words) (quoted_back quoted-spells) styles_allowed has_gap

pub returns-clause-block_scalars_are_walked : goal.returns-clause-block_scalars_are_walked
returns-clause-block_scalars_are_walked c = blocks_on has_gap
