use Rattle.yaml_round_answers.proofs.Places.{onward_at}
use Rattle.yaml_round_answers.proofs.onward.emitted_on.Goals as goal

pub returns-in-Ok : goal.returns-in-Ok
returns-in-Ok c = onward_at c.in_ok-emitter.emitter _ _ _ _ _ _ _ c.most_on-limit.ensures.is c.in_ok-emitter.ensures.starts c.in-Ok.ensures.given c.finished_on.ensures
