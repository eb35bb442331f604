use Rattle.yaml_parse_laws_trees.proofs.Counts.{four_a_token}
use Rattle.yaml_parse_laws_trees.proofs.SoFar.{few_so_far}
use Rattle.yaml_parse_laws_trees.proofs.CountsUnique.{one_tree}
use Rattle.yaml_parse_laws_trees.proofs.Turns.{items_given, turns_fit}
use Rattle.yaml_parse_laws_trees.proofs.counts_laws.laws_of_counts.Goals as goal

pub returns-clause-at_most_four_events_a_token : goal.returns-clause-at_most_four_events_a_token
returns-clause-at_most_four_events_a_token c = four_a_token

pub returns-clause-at_most_four_events_a_token_so_far :
    goal.returns-clause-at_most_four_events_a_token_so_far
returns-clause-at_most_four_events_a_token_so_far c = few_so_far

pub returns-clause-tokens_have_one_tree : goal.returns-clause-tokens_have_one_tree
returns-clause-tokens_have_one_tree c = one_tree

pub returns-clause-a_trees_events_are_computed : goal.returns-clause-a_trees_events_are_computed
returns-clause-a_trees_events_are_computed c = items_given

pub returns-clause-turns_fit_the_tree : goal.returns-clause-turns_fit_the_tree
returns-clause-turns_fit_the_tree c = turns_fit
