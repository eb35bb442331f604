use Rattle.yaml_cli_main.proofs.engine.RoundsEngine.judge.Goals as goal

pub returns-in-Err : goal.returns-in-Err
returns-in-Err c = rw c.in-Loads.is c.in-Err.ensures

pub returns-in-Err-yaml_normalize : goal.returns-in-Err-yaml_normalize
returns-in-Err-yaml_normalize c = rw c.in-IsNormal.is c.in-Err-yaml_normalize.ensures
