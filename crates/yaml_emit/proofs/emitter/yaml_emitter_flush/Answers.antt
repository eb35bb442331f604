use Rattle.std.proofs.Common.{refl}
use Rattle.yaml_emit.proofs.emitter.yaml_emitter_flush.Goals as goal

pub returns-clause-same : goal.returns-clause-same
returns-clause-same c = refl

pub returns-clause-answer : goal.returns-clause-answer
returns-clause-answer c = c.answer.ensures.answer
