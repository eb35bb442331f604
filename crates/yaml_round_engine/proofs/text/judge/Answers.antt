use Rattle.yaml_round_engine.proofs.Judging.{judged}
use Rattle.yaml_round_engine.proofs.text.judge.Goals as goal

pub returns : goal.returns
returns c = judged c.args.text.now.from c.args.text.now.bytes c.in_ok-reading.reading.parser c.read_out-answer.result c.in_ok-reading.ensures.reads c.read_out-answer.ensures
