use Rattle.yaml_parse_model.proofs.constructor.yaml_mapping_end_event_initialize.Goals as goal

pub returns : goal.returns
returns c = c.unplaced.ensures
