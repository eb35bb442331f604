-- Each event is its own input's. Not searched for, so that a wrong value fails by its type, at once.
use Rattle.yaml_round_engine.proofs.Telling.{placed_tells}
use Rattle.yaml_round_engine.proofs.seen.place_behind.Goals as goal

pub returns-in-Ok-seen_at : goal.returns-in-Ok-seen_at
returns-in-Ok-seen_at c = placed_tells c.args.front c.placed.result c.in-Ok.first c.in-Ok-seen_at.second _ _ c.placed.ensures c.in-Ok.ensures c.in-Ok-seen_at.ensures
