-- What the listing says is what is before the input's end.
use Rattle.std.proofs.Common.{inl}
use Rattle.yaml_round_answers.proofs.Handing.{front_ended}
use Rattle.yaml_round_answers.proofs.parsing.listed_in.Goals as goal

pub returns-in-Err : goal.returns-in-Err
returns-in-Err c = inl (inl c.in-Err.ensures.memory)

pub returns-in-Ok : goal.returns-in-Ok
returns-in-Ok c = front_ended c.args.text.now.from c.args.text.now.bytes c.in-Ok.reading.parser _ c.collect-end.result c.in-Ok.ensures.reads c.collect-end.ensures
