use Rattle.yaml_emit_laws.proofs.Whole.{nodes_are_walked, text_is_read}
use Rattle.yaml_emit_laws.proofs.pretty_laws.laws_of_pretty_text.Goals as goal

pub returns-clause-nodes_are_walked : goal.returns-clause-nodes_are_walked
returns-clause-nodes_are_walked c = nodes_are_walked

pub returns-clause-pretty_text_is_read : goal.returns-clause-pretty_text_is_read
returns-clause-pretty_text_is_read c = text_is_read
