use Rattle.yaml_parse_loader.proofs.making.Making.apply.Goals as goal

pub returns-in-Alias : goal.returns-in-Alias
returns-in-Alias c = rw c.in-Alias.is (c.alias.ensures c.args.marks.0)
