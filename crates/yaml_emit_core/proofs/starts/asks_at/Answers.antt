use Rattle.std.proofs.Common.{◌≡◌, refl, false}
use Rattle.yaml_emit_core.proofs.starts.asks_at.Goals as goal

pub returns : goal.returns
returns c = rw (c.awaits_key.ensures, c.is_in_flow.ensures false) refl
