use Rattle.std.proofs.Common.{◌==◌, ap, sym, ◌∙◌}
use Rattle.yaml_round_engine.proofs.Breaks.{last_is, last_none}
use Rattle.yaml_round_engine.proofs.styles.ends_in_space.Goals as goal

pub returns-then-is_empty : goal.returns-then-is_empty
returns-then-is_empty c = ap (λ b. b == 32) (last_none 0 _ (sym c.is_empty.ensures ∙ c.if-is_empty.true))

pub returns-else-is_empty : goal.returns-else-is_empty
returns-else-is_empty c = ap (λ b. b == 32) (last_is 0 _ (sym c.is_empty.ensures ∙ c.if-is_empty.false))
