use Rattle.yaml_parse_model.proofs.event.yaml_event_delete.Goals as goal

pub returns : goal.returns
returns c = c.unplaced.ensures
