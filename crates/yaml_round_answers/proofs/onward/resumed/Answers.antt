use Rattle.std.proofs.Common.{refl}
use Rattle.yaml_round_answers.proofs.Places.{goes_ok, stand_few, only_memory}
use Rattle.yaml_round_answers.proofs.onward.resumed.Goals as goal

pub yaml_emitter_resume-requires-clause-column : goal.yaml_emitter_resume-requires-clause-column
yaml_emitter_resume-requires-clause-column c = stand_few _ c.in-Some.stand c.in-Some.ensures c.requires.few

pub returns-clause-starts : goal.returns-clause-starts
returns-clause-starts c =
    goes_ok _ c.args.asked.now.settings _ _ _ _ _ _ c.in-Some.stand _ _ refl c.yaml_emitter_resume.ensures.is c.in-Some.ensures c.in-Some-levels_of.ensures
    c.in-Some-all_directives.ensures c.requires.few

pub returns-clause-memory : goal.returns-clause-memory
returns-clause-memory c = only_memory _ c.yaml_emitter_resume.ensures.memory
