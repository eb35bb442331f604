use Rattle.std.proofs.Common.{refl}
use Rattle.yaml_parse.proofs.parser.handed_out.Goals as goal

pub returns-in-Event : goal.returns-in-Event
returns-in-Event c = rw c.in-Event.is refl

pub returns-in-Refused : goal.returns-in-Refused
returns-in-Refused c = rw c.in-Refused.is refl

pub returns-in-End : goal.returns-in-End
returns-in-End c = rw c.in-End.is c.unplaced.ensures
