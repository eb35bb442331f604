use Rattle.yaml_round_content.proofs.Whole.{parsed_is_right}
use Rattle.yaml_round_content.proofs.StreamsInputs.{inputs_are_streams, inputs_are_fronts, inputs_load_right}
use Rattle.yaml_round_content.proofs.streams_laws.laws_of_streams.Goals as goal

pub returns-clause-parsed_is_right : goal.returns-clause-parsed_is_right
returns-clause-parsed_is_right c = parsed_is_right

pub returns-clause-inputs_are_streams : goal.returns-clause-inputs_are_streams
returns-clause-inputs_are_streams c = inputs_are_streams

pub returns-clause-inputs_are_fronts : goal.returns-clause-inputs_are_fronts
returns-clause-inputs_are_fronts c = inputs_are_fronts

pub returns-clause-inputs_load_right : goal.returns-clause-inputs_load_right
returns-clause-inputs_load_right c = inputs_load_right
