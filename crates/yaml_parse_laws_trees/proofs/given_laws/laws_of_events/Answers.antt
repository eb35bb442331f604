use Rattle.yaml_parse_laws_trees.proofs.Giving.{list_has_front, events_are_one, run_gives_events, events_are_run, run_gives_least}
use Rattle.yaml_parse_laws_trees.proofs.GivenRows.{rows_hold}
use Rattle.yaml_parse_laws_trees.proofs.Ordered.{begins_sentence}
use Rattle.yaml_parse_laws_trees.proofs.given_laws.laws_of_events.Goals as goal

pub returns-clause-a_list_has_a_longest_front : goal.returns-clause-a_list_has_a_longest_front
returns-clause-a_list_has_a_longest_front c = list_has_front

pub returns-clause-a_list_has_one_list_of_events : goal.returns-clause-a_list_has_one_list_of_events
returns-clause-a_list_has_one_list_of_events c = events_are_one

pub returns-clause-the_machine_gives_the_events : goal.returns-clause-the_machine_gives_the_events
returns-clause-the_machine_gives_the_events c = run_gives_events

pub returns-clause-the_events_are_what_the_machine_gives :
    goal.returns-clause-the_events_are_what_the_machine_gives
returns-clause-the_events_are_what_the_machine_gives c = events_are_run

pub returns-clause-the_machine_gives_all_of_the_front :
    goal.returns-clause-the_machine_gives_all_of_the_front
returns-clause-the_machine_gives_all_of_the_front c = run_gives_least

pub returns-clause-events_before_a_fault_begin_a_sentence :
    goal.returns-clause-events_before_a_fault_begin_a_sentence
returns-clause-events_before_a_fault_begin_a_sentence c = begins_sentence

pub returns-clause-rows_of_events_hold : goal.returns-clause-rows_of_events_hold
returns-clause-rows_of_events_hold c = rows_hold
