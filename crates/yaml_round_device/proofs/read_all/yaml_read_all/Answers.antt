-- What was read, or why it wasn't. Not searched for, so that a wrong answer fails by its type, at once.
use Rattle.yaml_round_device.proofs.Telling.{told_cause, told_few}
use Rattle.yaml_round_device.proofs.read_all.yaml_read_all.Goals as goal

pub returns-in-Ok-clause-all : goal.returns-in-Ok-clause-all
returns-in-Ok-clause-all g c = c.in-Ok.ensures.all

pub returns-in-Ok-clause-cause : goal.returns-in-Ok-clause-cause
returns-in-Ok-clause-cause g c = tt

pub returns-in-Ok-clause-count : goal.returns-in-Ok-clause-count
returns-in-Ok-clause-count g c = c.in-Ok.ensures.count

pub returns-in-Ok-clause-few : goal.returns-in-Ok-clause-few
returns-in-Ok-clause-few g c = tt

pub returns-in-Err-clause-cause : goal.returns-in-Err-clause-cause
returns-in-Err-clause-cause g c = told_cause _ _ _ _ _ _ c.told.ensures c.in-Err.ensures.cause

pub returns-in-Err-clause-few : goal.returns-in-Err-clause-few
returns-in-Err-clause-few g c = told_few _ _ _ _ _ c.told.ensures c.in-Err.ensures.few
