use Rattle.yaml_emit_machine.proofs.LaidOut.{streams_are_laid}
use Rattle.yaml_emit_machine.proofs.law.streams_are_laid.Goals as goal

pub returns : goal.returns
returns c = streams_are_laid
