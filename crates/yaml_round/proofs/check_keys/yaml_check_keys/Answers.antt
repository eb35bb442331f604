-- What the answer of the input's text says, by its own clause.
use Rattle.std.proofs.Common.{subst, Ok}
use Rattle.yaml_round_engine.specs.round_reading.Input.{Input}
use Rattle.yaml_round.specs.Keys.{IsKeyCheck}
use Rattle.yaml_round.proofs.KeysTold.{told_none}
use Rattle.yaml_round.proofs.check_keys.yaml_check_keys.Goals as goal

pub returns-in-Ok-clause-distinct : goal.returns-in-Ok-clause-distinct
returns-in-Ok-clause-distinct c =
    told_none c.args.from c.args.input.now c.in-Ok.told.items
    (subst (λ (i : Input). IsKeyCheck i.from i.bytes (Ok c.in-Ok.told.items)) c.read_text-text.ensures c.in-Ok.ensures)
