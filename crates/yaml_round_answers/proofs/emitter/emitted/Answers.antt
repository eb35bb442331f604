use Rattle.yaml_round_answers.proofs.Leading.{emitter_answer, leads_whole}
use Rattle.yaml_round_answers.proofs.emitter.emitted.Goals as goal

pub returns-in-Ok : goal.returns-in-Ok
returns-in-Ok c = emitter_answer _ _ _ _ _ _ c.in_ok-emitter.ensures.under (leads_whole _ _ _ c.in-Ok.ensures.given.leads) c.finished.ensures
