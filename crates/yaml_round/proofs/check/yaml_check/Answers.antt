-- The answer is that of the loading. Not searched for, so that a wrong value fails by its type, at once.
use Rattle.yaml_round.proofs.check.yaml_check.Goals as goal

pub returns-in-Ok : goal.returns-in-Ok
returns-in-Ok c = c.in-Ok.ensures

pub returns-in-Err : goal.returns-in-Err
returns-in-Err c = c.in-Err.ensures
