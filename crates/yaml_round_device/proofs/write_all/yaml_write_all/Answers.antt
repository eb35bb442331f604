-- What the output received, and whether it is finished. Not searched for, so that a wrong answer fails by its type, at once.
use Rattle.std.proofs.Common.{rules}
use Rattle.yaml_round_device.proofs.write_all.yaml_write_all.Goals as goal

pub returns-in-Err-clause-unfinished : goal.returns-in-Err-clause-unfinished
returns-in-Err-clause-unfinished g c = c.in-Err.ensures.unfinished

pub returns-in-Err-clause-failed : goal.returns-in-Err-clause-failed
returns-in-Err-clause-failed g c = c.in-Err.ensures.failed

pub returns-in-Err-clause-front : goal.returns-in-Err-clause-front
returns-in-Err-clause-front g c = c.in-Err.ensures.front

pub returns-in-Err-finished-clause-sound : goal.returns-in-Err-finished-clause-sound
returns-in-Err-finished-clause-sound g c = tt

pub returns-in-Err-finished-clause-finished : goal.returns-in-Err-finished-clause-finished
returns-in-Err-finished-clause-finished g c = tt

pub returns-in-Ok-finished-clause-finished : goal.returns-in-Ok-finished-clause-finished
returns-in-Ok-finished-clause-finished g c = search rules
