use Rattle.std.proofs.Common.{refl}
use Rattle.yaml_scan_types.proofs.token.yaml_token_t.type_.Goals as goal

pub returns-in-Key : goal.returns-in-Key
returns-in-Key c = rw c.in-Key.is refl
