use Rattle.yaml_parse_laws_trees.proofs.Sound.{accepted_trees, accepted_sentences, sentences_accepted}
use Rattle.yaml_parse_laws_trees.proofs.Refusal.{faults_stand, fronts_pass}
use Rattle.yaml_parse_laws_trees.proofs.Events.{events_begin}
use Rattle.yaml_parse_laws_trees.proofs.sound_laws.laws_of_acceptance.Goals as goal

pub returns-clause-accepted_lists_begin_with_trees :
    goal.returns-clause-accepted_lists_begin_with_trees
returns-clause-accepted_lists_begin_with_trees c = accepted_trees

pub returns-clause-accepted_lists_begin_with_sentences :
    goal.returns-clause-accepted_lists_begin_with_sentences
returns-clause-accepted_lists_begin_with_sentences c = accepted_sentences

pub returns-clause-sentences_are_accepted : goal.returns-clause-sentences_are_accepted
returns-clause-sentences_are_accepted c = sentences_accepted

pub returns-clause-faults_stand_at_the_first_wrong_token :
    goal.returns-clause-faults_stand_at_the_first_wrong_token
returns-clause-faults_stand_at_the_first_wrong_token c = faults_stand

pub returns-clause-fronts_of_trees_are_not_refused :
    goal.returns-clause-fronts_of_trees_are_not_refused
returns-clause-fronts_of_trees_are_not_refused c = fronts_pass

pub returns-clause-events_begin_as_items_do : goal.returns-clause-events_begin_as_items_do
returns-clause-events_begin_as_items_do c = events_begin
