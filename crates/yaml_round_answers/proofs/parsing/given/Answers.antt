-- Where there is no memory for the text, that is reported.
use Rattle.yaml_round_answers.proofs.Handing.{starved_gives, nothing_given}
use Rattle.yaml_round_answers.proofs.Refusing.{memory_refused}
use Rattle.yaml_round_answers.proofs.parsing.given.Goals as goal

pub returns-in-None-clause-told : goal.returns-in-None-clause-told
returns-in-None-clause-told c = starved_gives c.args.whole _ _ _ _ c.nothing.ensures (memory_refused _ _ _ _ c.yaml_memory_fault.ensures c.refused_in.ensures)

pub returns-in-None-clause-none : goal.returns-in-None-clause-none
returns-in-None-clause-none c = nothing_given c.args.whole _ _ c.nothing.ensures
