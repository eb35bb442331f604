use Rattle.std.proofs.Common.{rules, ◌+◌}
use Rattle.yaml_scan_core.proofs.MarginsLemmas.{open_none, open_more}
use Rattle.yaml_scan_core.proofs.levels.Levels.open.Goals as goal

pub returns-then-column-self-clause-levels : goal.returns-then-column-self-clause-levels
returns-then-column-self-clause-levels c = λ ls a. (open_none c.args.column c.args.self.now ls a c.if-column-self.true).0

pub returns-then-column-self-clause-opens : goal.returns-then-column-self-clause-opens
returns-then-column-self-clause-opens c = λ ls a. (open_none c.args.column c.args.self.now ls a c.if-column-self.true).1

pub returns-clause-levels : goal.returns-clause-levels
returns-clause-levels c = λ ls a. (open_more c.args.column c.args.self.now _ ls a c.if-column-self.false (search rules) (search rules)).0

pub returns-clause-opens : goal.returns-clause-opens
returns-clause-opens c = λ ls a. (open_more c.args.column c.args.self.now record { margin = c.args.column + 1; outer = c.push_reserved.new.self } ls a c.if-column-self.false (search rules) (search rules)).1
