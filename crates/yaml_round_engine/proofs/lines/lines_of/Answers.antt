use Rattle.std.proofs.Common.{◌∙◌}
use Rattle.yaml_round_engine.proofs.Judging.{listed, not_listed}
use Rattle.yaml_round_engine.proofs.lines.lines_of.Goals as goal

pub returns-in-Err : goal.returns-in-Err
returns-in-Err c = λ from input h. not_listed from input c.args.reading.now.parser c.in-Err.fault h c.in-Err.ensures

pub returns-in-Ok : goal.returns-in-Ok
returns-in-Ok c = λ from input h.
    listed from input c.args.reading.now.parser c.push_lines.new.lines.items c.reserve.new.self.items h (c.reserve.ensures.items ∙ c.new-lines.ensures.items) c.in-Ok.ensures.0 c.in-Ok.ensures.1
