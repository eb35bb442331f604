use Rattle.yaml_parse_model.proofs.constructor.yaml_sequence_end_event_initialize.Goals as goal

pub returns : goal.returns
returns c = c.unplaced.ensures
