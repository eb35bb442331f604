use Rattle.yaml_emit_laws.proofs.Lining.{line_on, line_ends, mark_on}
use Rattle.yaml_emit_laws.proofs.Following.{shown_ends}
use Rattle.yaml_emit_laws.proofs.SpokenWords.{plain_on, single_on}
use Rattle.yaml_emit_laws.proofs.Stopping.{stands, are_words, has_gap, quoted_stands}
use Rattle.yaml_emit_laws.proofs.Parts.{single_spelling_reads}
use Rattle.yaml_emit_laws.proofs.NodeBlocks.{nodes_walk}
use Rattle.yaml_emit_laws.proofs.laws.laws_of_nodes.Goals as goal

pub returns-clause-line_is_walked : goal.returns-clause-line_is_walked
returns-clause-line_is_walked c = line_on

pub returns-clause-line_ends_node : goal.returns-clause-line_ends_node
returns-clause-line_ends_node c = line_ends

pub returns-clause-mark_is_walked : goal.returns-clause-mark_is_walked
returns-clause-mark_is_walked c = mark_on

pub returns-clause-shown_ends : goal.returns-clause-shown_ends
returns-clause-shown_ends c = shown_ends

pub returns-clause-plain_is_walked : goal.returns-clause-plain_is_walked
returns-clause-plain_is_walked c = plain_on has_gap stands are_words

pub returns-clause-single_is_walked : goal.returns-clause-single_is_walked
returns-clause-single_is_walked c = single_on (quoted_stands single_spelling_reads) are_words

pub returns-clause-nodes_follow : goal.returns-clause-nodes_follow
returns-clause-nodes_follow c = nodes_walk
