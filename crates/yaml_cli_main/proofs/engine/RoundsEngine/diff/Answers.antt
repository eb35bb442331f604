use Rattle.yaml_cli_main.proofs.engine.RoundsEngine.diff.Goals as goal

pub returns-in-Ok-Some : goal.returns-in-Ok-Some
returns-in-Ok-Some c = (c.in-Ok-Some.difference, rw c.in-Ok-Some.field-0-is at c.in-Ok-Some.ensures, c.difference_of.ensures)
