use Rattle.yaml_round_content.proofs.Joining.{inputs_read, one_reading, refused_read, read_refused, said_read, read_said, events_of_tree}
use Rattle.yaml_round_content.proofs.Told.{are_told}
use Rattle.yaml_round_content.proofs.Rows.{rows_hold}
use Rattle.yaml_round_content.proofs.Numbered.{events_placed, loads_numbered, inputs_numbered, one_by_one}
use Rattle.yaml_parse_loader.proofs.Loads.{loads_document}
use Rattle.yaml_round_content.proofs.ByContent.{sources_load}
use Rattle.yaml_round_content.proofs.Loaded.{tokens_load, one_of_tokens, inputs_load, one_loading, loading_loads, faultless_load, faulty_load}
use Rattle.yaml_round_content.proofs.reading_laws.laws_of_readings.Goals as goal

pub returns-clause-each_input_has_a_reading : goal.returns-clause-each_input_has_a_reading
returns-clause-each_input_has_a_reading c = inputs_read

pub returns-clause-an_input_has_one_reading : goal.returns-clause-an_input_has_one_reading
returns-clause-an_input_has_one_reading c = one_reading

pub returns-clause-refused_is_read : goal.returns-clause-refused_is_read
returns-clause-refused_is_read c = refused_read

pub returns-clause-read_is_refused : goal.returns-clause-read_is_refused
returns-clause-read_is_refused c = read_refused

pub returns-clause-said_is_read : goal.returns-clause-said_is_read
returns-clause-said_is_read c = said_read

pub returns-clause-read_is_said : goal.returns-clause-read_is_said
returns-clause-read_is_said c = read_said

pub returns-clause-events_are_of_the_tree : goal.returns-clause-events_are_of_the_tree
returns-clause-events_are_of_the_tree c = events_of_tree

pub returns-clause-events_are_told : goal.returns-clause-events_are_told
returns-clause-events_are_told c = are_told

pub returns-clause-rows_of_contents_hold : goal.returns-clause-rows_of_contents_hold
returns-clause-rows_of_contents_hold c = rows_hold

pub returns-clause-events_are_placed : goal.returns-clause-events_are_placed
returns-clause-events_are_placed c = events_placed

pub returns-clause-loads_are_numbered : goal.returns-clause-loads_are_numbered
returns-clause-loads_are_numbered c = loads_numbered loads_document

pub returns-clause-inputs_are_numbered : goal.returns-clause-inputs_are_numbered
returns-clause-inputs_are_numbered c = inputs_numbered loads_document

pub returns-clause-loads_are_one_by_one : goal.returns-clause-loads_are_one_by_one
returns-clause-loads_are_one_by_one c = one_by_one

pub returns-clause-sources_load_by_content : goal.returns-clause-sources_load_by_content
returns-clause-sources_load_by_content c = sources_load

pub returns-clause-a_source_loads_its_loading : goal.returns-clause-a_source_loads_its_loading
returns-clause-a_source_loads_its_loading c = tokens_load

pub returns-clause-a_source_has_one_loading : goal.returns-clause-a_source_has_one_loading
returns-clause-a_source_has_one_loading c = one_of_tokens

pub returns-clause-an_input_loads_its_loading : goal.returns-clause-an_input_loads_its_loading
returns-clause-an_input_loads_its_loading c = inputs_load

pub returns-clause-an_input_has_one_loading : goal.returns-clause-an_input_has_one_loading
returns-clause-an_input_has_one_loading c = one_loading

pub returns-clause-the_loading_is_what_it_loads : goal.returns-clause-the_loading_is_what_it_loads
returns-clause-the_loading_is_what_it_loads c = loading_loads

pub returns-clause-what_loads_without_fault_is_its_loading :
    goal.returns-clause-what_loads_without_fault_is_its_loading
returns-clause-what_loads_without_fault_is_its_loading c = faultless_load

pub returns-clause-the_fault_of_loads_is_its_loading :
    goal.returns-clause-the_fault_of_loads_is_its_loading
returns-clause-the_fault_of_loads_is_its_loading c = faulty_load
