use Rattle.yaml_parse_laws_trees.proofs.Unique.{one_load_fault}
use Rattle.yaml_parse_laws_trees.proofs.LoadingEnding.{loads_end_in_fault, fault_ends_loads}
use Rattle.yaml_parse_laws_trees.proofs.LoadsCome.{loads_come}
use Rattle.yaml_parse_laws_trees.proofs.Rows.{rows}
use Rattle.yaml_parse_laws_trees.proofs.loading_laws.laws_of_loading.Goals as goal

pub returns-clause-a_list_has_one_fault_of_loading :
    goal.returns-clause-a_list_has_one_fault_of_loading
returns-clause-a_list_has_one_fault_of_loading c = one_load_fault

pub returns-clause-loads_end_in_the_fault : goal.returns-clause-loads_end_in_the_fault
returns-clause-loads_end_in_the_fault c = loads_end_in_fault

pub returns-clause-the_fault_is_what_loads_end_in :
    goal.returns-clause-the_fault_is_what_loads_end_in
returns-clause-the_fault_is_what_loads_end_in c = fault_ends_loads

pub returns-clause-loads_by_content_come_to_the_fault :
    goal.returns-clause-loads_by_content_come_to_the_fault
returns-clause-loads_by_content_come_to_the_fault c = loads_come

pub returns-clause-rows_of_faults_of_loading_hold :
    goal.returns-clause-rows_of_faults_of_loading_hold
returns-clause-rows_of_faults_of_loading_hold c = rows
