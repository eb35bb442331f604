use Rattle.yaml_round_content.proofs.InputTexts.{inputs_flags, inputs_parsable}
use Rattle.yaml_round_content.proofs.JsonInputs.{json_begins}
use Rattle.yaml_round_content.proofs.input_laws.laws_of_inputs.Goals as goal

pub returns-clause-inputs_have_reader_flags : goal.returns-clause-inputs_have_reader_flags
returns-clause-inputs_have_reader_flags c = inputs_flags

pub returns-clause-inputs_are_parsable : goal.returns-clause-inputs_are_parsable
returns-clause-inputs_are_parsable c = inputs_parsable

pub returns-clause-json_begins_with_something : goal.returns-clause-json_begins_with_something
returns-clause-json_begins_with_something c = json_begins
