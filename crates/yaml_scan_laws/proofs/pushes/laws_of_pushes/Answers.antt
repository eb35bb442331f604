use Rattle.yaml_scan_laws.proofs.Pushing.{inside_leaves, right_leaves, left_closes, met_is_read, word_is_read, mark_is_read, outer_is_read}
use Rattle.yaml_scan_laws.proofs.pushes.laws_of_pushes.Goals as goal

pub returns-clause-inside_leaves : goal.returns-clause-inside_leaves
returns-clause-inside_leaves c = inside_leaves

pub returns-clause-right_leaves : goal.returns-clause-right_leaves
returns-clause-right_leaves c = right_leaves

pub returns-clause-left_closes : goal.returns-clause-left_closes
returns-clause-left_closes c = left_closes

pub returns-clause-met_is_read : goal.returns-clause-met_is_read
returns-clause-met_is_read c = met_is_read

pub returns-clause-word_is_read : goal.returns-clause-word_is_read
returns-clause-word_is_read c = word_is_read

pub returns-clause-mark_is_read : goal.returns-clause-mark_is_read
returns-clause-mark_is_read c = mark_is_read

pub returns-clause-outer_is_read : goal.returns-clause-outer_is_read
returns-clause-outer_is_read c = outer_is_read
