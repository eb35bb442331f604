use Rattle.std.proofs.Common.{rules}
use Rattle.yaml_scan_decode.proofs.decode.yaml_text_t.as_slice.Goals as goal

pub returns-in-Owned : goal.returns-in-Owned
returns-in-Owned c = search rules
