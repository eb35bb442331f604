use Rattle.yaml_emit_laws.proofs.KeyLeaves.{keys_walk, keys_walk_in}
use Rattle.yaml_emit_laws.proofs.Stopping.{has_gap, are_words}
use Rattle.yaml_emit_laws.proofs.SingleWritten.{single_back}
use Rattle.yaml_emit_laws.proofs.Parts.{single_spelling_reads}
use Rattle.yaml_emit_laws.proofs.Styles.{styles_allowed}
use Rattle.yaml_emit_laws.proofs.key_laws.laws_of_simple_keys.Goals as goal

pub returns-clause-simple_keys_are_walked : goal.returns-clause-simple_keys_are_walked
returns-clause-simple_keys_are_walked c = keys_walk (record { gaps = has_gap; words = are_words; singles = (single_back single_spelling_reads); styles = styles_allowed })

pub returns-clause-keys_are_walked_in : goal.returns-clause-keys_are_walked_in
returns-clause-keys_are_walked_in c = keys_walk_in (record { gaps = has_gap; words = are_words; singles = (single_back single_spelling_reads); styles = styles_allowed })
