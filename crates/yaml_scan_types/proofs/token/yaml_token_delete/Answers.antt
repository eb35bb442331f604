use Rattle.yaml_scan_types.proofs.token.yaml_token_delete.Goals as goal

pub returns : goal.returns
returns c = c.empty.ensures
