use Rattle.std.proofs.Common.{refl}
use Rattle.yaml_emit_core.proofs.Outer.{unfit}
use Rattle.yaml_emit_core.proofs.judge.fits.Goals as goal

pub returns-in-StreamStart : goal.returns-in-StreamStart
returns-in-StreamStart c = rw c.in-StreamStart.is c.is_start.ensures

pub returns-in-StreamEnd : goal.returns-in-StreamEnd
returns-in-StreamEnd c = rw c.in-StreamEnd.is c.is_between.ensures

pub returns-in-DocumentEnd : goal.returns-in-DocumentEnd
returns-in-DocumentEnd c = rw c.in-DocumentEnd.is c.is_over.ensures

pub returns-in_default : goal.returns-in_default
returns-in_default c = unfit c.args.event.now c.args.state c.in_default.not-StreamStart c.in_default.not-StreamEnd c.in_default.not-DocumentEnd
