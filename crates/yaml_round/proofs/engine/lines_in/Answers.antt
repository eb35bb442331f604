-- The lines are those of the input that was read.
use Rattle.std.proofs.Common.{inl, inr}
use Rattle.yaml_round.proofs.engine.lines_in.Goals as goal

pub returns-in-Err : goal.returns-in-Err
returns-in-Err c = inl (inr (inl c.in-Err.ensures.memory))

pub returns-in-Ok : goal.returns-in-Ok
returns-in-Ok c = c.lines_of-answer.ensures c.args.text.now.from c.args.text.now.bytes c.in-Ok.ensures.reads
