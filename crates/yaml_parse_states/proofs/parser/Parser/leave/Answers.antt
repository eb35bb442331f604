use Rattle.yaml_parse_states.proofs.Standing.{none_nested, popped_nested}
use Rattle.yaml_parse_states.proofs.Stacks.{popped, emptied}
use Rattle.yaml_parse_states.proofs.parser.Parser.leave.Goals as goal

pub returns-in-Some-clause-states : goal.returns-in-Some-clause-states
returns-in-Some-clause-states g c = λ at. popped at c.args.self.now.levels.items c.pop.new.self.items c.in-Some.level c.pop.result c.pop.ensures.items c.in-Some.is

pub returns-in-None-clause-states : goal.returns-in-None-clause-states
returns-in-None-clause-states g c = λ at. emptied at c.args.self.now.levels.items _ c.args.self.now.levels.ok.0 (rw c.in-None.is at c.pop.ensures.cases).0

pub returns-in-Some-clause-stands : goal.returns-in-Some-clause-stands
returns-in-Some-clause-stands g c = λ h. popped_nested c.args.self.now.levels.items c.pop.new.self.items c.in-Some.level c.pop.result c.pop.ensures.items c.in-Some.is h

pub returns-in-None-clause-stands : goal.returns-in-None-clause-stands
returns-in-None-clause-stands g c = λ h. absurd (none_nested c.args.self.now.levels.items _ c.args.self.now.levels.ok.0 (rw c.in-None.is at c.pop.ensures.cases).0 h)
