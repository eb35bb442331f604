use Rattle.yaml_parse_laws_trees.proofs.FaultsUnique.{one_fault}
use Rattle.yaml_parse_laws_trees.proofs.Ending.{ends_in_fault, fault_ends, told_at_place}
use Rattle.yaml_parse_laws_trees.proofs.FaultsRows.{rows}
use Rattle.yaml_parse_laws_trees.proofs.faults_laws.laws_of_faults.Goals as goal

pub returns-clause-a_list_has_one_fault : goal.returns-clause-a_list_has_one_fault
returns-clause-a_list_has_one_fault c = one_fault

pub returns-clause-the_machine_ends_in_the_fault : goal.returns-clause-the_machine_ends_in_the_fault
returns-clause-the_machine_ends_in_the_fault c = ends_in_fault

pub returns-clause-the_fault_is_what_the_machine_ends_in :
    goal.returns-clause-the_fault_is_what_the_machine_ends_in
returns-clause-the_fault_is_what_the_machine_ends_in c = fault_ends

pub returns-clause-the_fault_is_told_at_its_place :
    goal.returns-clause-the_fault_is_told_at_its_place
returns-clause-the_fault_is_told_at_its_place c = told_at_place

pub returns-clause-rows_of_faults_hold : goal.returns-clause-rows_of_faults_hold
returns-clause-rows_of_faults_hold c = rows
