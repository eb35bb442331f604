use Rattle.yaml_emit_machine.proofs.Grammatical.{passes_streams}
use Rattle.yaml_emit_machine.proofs.law.streams_pass.Goals as goal

pub returns : goal.returns
returns c = passes_streams
