use Rattle.yaml_emit_scalars.proofs.Looks.{last_none, last_some}
use Rattle.yaml_emit_scalars.proofs.run.last_of.Goals as goal

pub returns-in-None : goal.returns-in-None
returns-in-None c = last_none _ _ c.in-None.ensures.letters

pub returns-in-Some : goal.returns-in-Some
returns-in-Some c = last_some _ _ _ _ c.in-Some.ensures.letters
