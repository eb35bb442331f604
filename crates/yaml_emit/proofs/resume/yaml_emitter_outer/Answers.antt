use Rattle.std.proofs.Common.{rules}
use Rattle.yaml_emit.proofs.resume.yaml_emitter_outer.Goals as goal

pub returns : goal.returns
returns c = search rules
