use Rattle.std.proofs.Common.{refl}
use Rattle.yaml_scan_types.proofs.token.yaml_token_t.empty.Goals as goal

pub returns : goal.returns
returns c = refl
